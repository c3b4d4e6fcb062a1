-- Which files of a case are judged, and which case is refused for its files.
use Rattle.std.specs.Prelude.{◌≡◌, ℕ, Bool, true, false, List, get_or, Option, Some, None, IfSome}
use Rattle.std.specs.Option.{option_or}
use Rattle.rel_files.specs.Refusals.{IsNamed, file_refusal, heap_limit, toast_limit}
use Rattle.outside.specs.Outside.{Names}
use Rattle.rel_files.specs.Relation.{FindsFront, IsRelationOf}
use Rattle.rel_files.specs.declared.relation.Relation.{Relation}
use Rattle.case_file.specs.Record.{CaseRecord}
use Rattle.heap_targets.specs.Targets.{targets_of}
use Rattle.vis_map.specs.Bits.{map_pages_for}
use Rattle.toast_chunks.specs.declared.map.Chunk.{Chunk}
use Rattle.rel_files.specs.declared.check_fault.CheckFault.{CheckFault}
use Rattle.rel_files.specs.declared.check_fault.Which.TheVariants.{Heap, Toast}
use Rattle.heap_page_check.specs.Quiet.{IsPlain}
use Rattle.heap_table_check.specs.declared.files.HeapFiles.{HeapFiles}
use Rattle.heap_table_check.specs.declared.files.SoundHeap.{SoundHeap}
use Rattle.heap_table_check.specs.Case.{heap_blocks, heap_page, table_of}
use Rattle.heap_table_check.specs.Found.{chunks_of}
use Rattle.heap_table_check.specs.Map.{map_name}

-- Refusals

abbrev pub toast_refusal : Names → ℕ → Option (List ℕ × ℕ) → Option CheckFault
toast_refusal names size None = None
toast_refusal names size (Some t) = file_refusal Toast names t.0 size

-- why the files of a case can't be judged: the heap's cause, or else the TOAST table's. A map that isn't there is no
-- cause
unfoldable pub refusal_of : CaseRecord → Names → Option CheckFault
refusal_of case names =
    option_or (file_refusal Heap names case.heap_file case.segment_blocks)
    (toast_refusal names case.segment_blocks case.toast)

-- The files of a case

-- the TOAST table is attached where the case has one
abbrev pub IsToastIn : Names → ℕ → Option (List ℕ × ℕ) → Option Relation → Type 0
IsToastIn names size None None = Unit {0}
IsToastIn names size (Some t) (Some r) = IsRelationOf names t.0 size toast_limit r
IsToastIn names size None (Some r) = ⊥
IsToastIn names size (Some t) None = ⊥

-- the files are those of a case, over these names
pub record AreFilesOf (case : CaseRecord) (names : Names) (files : HeapFiles) : Type 0 where
  pub heap : IsRelationOf names case.heap_file case.segment_blocks heap_limit files.heap
  pub map :
      FindsFront names (map_name case.heap_file) case.segment_blocks (map_pages_for (heap_blocks case names)) files.map
  pub toast : IsToastIn names case.segment_blocks case.toast files.toast

abbrev pub IsToastNamed : ℕ → Option (List ℕ × ℕ) → Option Relation → Type 0
IsToastNamed size None None = Unit {0}
IsToastNamed size (Some t) (Some r) = IsNamed t.0 size r
IsToastNamed size None (Some r) = ⊥
IsToastNamed size (Some t) None = ⊥

-- the files are those of a case, whatever their names hold
pub record BelongTo (case : CaseRecord) (files : HeapFiles) : Type 0 where
  pub heap : IsNamed case.heap_file case.segment_blocks files.heap
  pub map : IfSome files.map (IsNamed (map_name case.heap_file) case.segment_blocks)
  pub toast : IsToastNamed case.segment_blocks case.toast files.toast

-- the files of a sound heap
abbrev pub files_of : SoundHeap → HeapFiles
files_of sound = sound.files

-- what stands in it: the heap's relation, that of the TOAST table, where there is one, and its chunks
abbrev pub heap_in : SoundHeap → Relation
heap_in sound = sound.files.heap

abbrev pub toast_in : SoundHeap → Option Relation
toast_in sound = sound.files.toast

abbrev pub chunks_in : SoundHeap → List Chunk
chunks_in sound = sound.chunks

-- and the set of its line pointers that an index entry may name
abbrev pub targets_in : SoundHeap → List (List Bool)
targets_in sound = sound.known.targets

-- and whether the page of a block is known to be plain; past the last block none is
abbrev pub is_plain_in : SoundHeap → ℕ → Bool
is_plain_in sound block = get_or sound.known.plain.items block false

-- a heap without findings and without doubts, over these names: its files, the chunks of its TOAST table, the line
-- pointers of its pages that an index entry may name, and pages that are plain
pub record IsSoundHeapOf (case : CaseRecord) (names : Names) (sound : SoundHeap) : Type 0 where
  pub files : AreFilesOf case names sound.files
  pub chunks : sound.chunks ≡ chunks_of case names
  pub targets : targets_in sound ≡ targets_of (heap_page case names) (heap_blocks case names)
  pub plain : (block : ℕ) → is_plain_in sound block ≡ true → IsPlain (table_of case names) (heap_page case names block)
