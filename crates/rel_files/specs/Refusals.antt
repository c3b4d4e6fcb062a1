-- Which file of a case is refused, and what an answer tells of that.
use Rattle.std.specs.Prelude.{◌≡◌, ℕ, Bool, nat_lt, if◌then◌else◌, List, Option, Some, None, Result, Ok, Err}
use Rattle.outside.specs.Outside.{Names}
use Rattle.outside.specs.declared.files.Part.TheVariants.{Segment}
use Rattle.rel_files.specs.Blocks.{blocks_of}
use Rattle.rel_files.specs.Relation.{base_of, size_of}
use Rattle.rel_files.specs.declared.fault.AttachFault.{AttachFault}
use Rattle.rel_files.specs.declared.fault.AttachFault.TheVariants as attach
use Rattle.rel_files.specs.declared.relation.Relation.{Relation}
use Rattle.rel_files.specs.declared.check_fault.CheckFault.{CheckFault}
use Rattle.rel_files.specs.declared.check_fault.CheckFault.TheVariants.{NoFile, NoMemory, ReadFault, TooLarge}
use Rattle.rel_files.specs.declared.check_fault.Which.{Which}
use Rattle.rel_files.specs.declared.check_fault.Which.TheVariants.{Heap, Index, Toast}

-- how many blocks a heap may have: 32 GiB of blocks of 8192 bytes; and a TOAST table, and an index: 8 GiB
abbrev pub heap_limit : ℕ
heap_limit = 4194304

abbrev pub toast_limit : ℕ
toast_limit = 1048576

abbrev pub index_limit : ℕ
index_limit = 1048576

abbrev pub limit_of : Which → ℕ
limit_of Heap = heap_limit
limit_of Toast = toast_limit
limit_of (Index n) = index_limit

-- a file of so many blocks is too large
abbrev pub large_by : Which → Bool → ℕ → Option CheckFault
large_by which large blocks = if large then Some (TooLarge which blocks (limit_of which)) else None

abbrev pub refused_by : Which → Option (List ℕ) → ℕ → Option CheckFault
refused_by which None blocks = Some (NoFile which)
refused_by which (Some bytes) blocks = large_by which (nat_lt (limit_of which) blocks) blocks

-- why a file can't be judged: it isn't there, or is too large
unfoldable pub file_refusal : Which → Names → List ℕ → ℕ → Option CheckFault
file_refusal which names base size =
    refused_by which (names base (Segment 0)) (blocks_of names base size (limit_of which))

-- an answer is a refusal exactly where there is one; a fault and want of memory say nothing of it
abbrev pub TellsRefusal : {T : Type 0} → Option CheckFault → Result T CheckFault → Type 0
TellsRefusal refusal (Ok _) = refusal ≡ None
TellsRefusal refusal (Err ReadFault) = Unit {0}
TellsRefusal refusal (Err NoMemory) = Unit {0}
TellsRefusal refusal (Err (NoFile which)) = refusal ≡ Some (NoFile which)
TellsRefusal refusal (Err (TooLarge which blocks limit)) = refusal ≡ Some (TooLarge which blocks limit)

-- the fault of attaching a file, with the file that is meant
abbrev pub fault_of : Which → AttachFault → CheckFault
fault_of which attach.NoFile = NoFile which
fault_of which (attach.TooLarge blocks limit) = TooLarge which blocks limit
fault_of which attach.ReadFault = ReadFault
fault_of which attach.NoMemory = NoMemory

-- a relation has this name, and full segments of this size
pub record IsNamed (base : List ℕ) (size : ℕ) (r : Relation) : Type 0 where
  pub named : base_of r ≡ base
  pub sized : size_of r ≡ size
