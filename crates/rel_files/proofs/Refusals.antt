-- A refusal to attach a file is the refusal that its names give.
use Rattle.std.proofs.Common.{◌≡◌, ℕ, zero, suc, ◌/◌, ◌<◌, ◌≤◌, ◌⊎◌, inl, inr, Bool, true, false, List, refl, subst, sym, ◌∙◌, arith}
use Rattle.std.specs.Prelude.{Option, Some, None, IsSome, nat_lt, ◌==◌, if◌then◌else◌, Err}
use Rattle.std.specs.Option.{option_or}
use Rattle.std.proofs.lemmas.Grind.{common_steps}
use Rattle.outside.specs.Outside.{Names}
use Rattle.outside.specs.declared.files.Part.TheVariants.{Segment}
use Rattle.rel_files.specs.Blocks.{blocks_below, blocks_of, first_not_full, last_segment, segment_length}
use Rattle.rel_files.specs.Relation.{IsRefused, IsRelationOf, count_of}
use Rattle.rel_files.specs.declared.fault.AttachFault.{AttachFault}
use Rattle.rel_files.specs.declared.fault.AttachFault.TheVariants as attach
use Rattle.rel_files.specs.declared.relation.Relation.{Relation}
use Rattle.rel_files.specs.declared.check_fault.CheckFault.{CheckFault}
use Rattle.rel_files.specs.declared.check_fault.CheckFault.TheVariants.{NoFile, TooLarge, ReadFault, NoMemory}
use Rattle.rel_files.specs.declared.check_fault.Which.{Which}
use Rattle.rel_files.specs.Refusals.{TellsRefusal, fault_of, file_refusal, large_by, limit_of, refused_by}

-- a first segment that isn't full is the last
pub first_is_last : (len : ℕ → ℕ) (size n : ℕ) → len 0 < size → first_not_full len size 0 n ≡ 0
unfolding first_not_full
first_is_last len size zero few = refl
first_is_last len size (suc n) few = by_test (len 0 == size) (grind (arith, common_steps))
  where
    by_test : (t : Bool) → t ≡ false → (if t then first_not_full len size 1 n else 0) ≡ 0
    by_test t e = rw e refl

pub one_segment : (names : Names) (base : List ℕ) (size limit : ℕ) → segment_length names base 0 < size
    → blocks_of names base size limit ≡ segment_length names base 0
unfolding blocks_of last_segment blocks_below
one_segment names base size limit few =
    rw (first_is_last (segment_length names base) size (limit / size) few) (omega (arith, few))

-- a relation whose first segment isn't held has no blocks
pub no_blocks : (names : Names) (base : List ℕ) (size limit : ℕ) → 1 ≤ size → names base (Segment 0) ≡ None → blocks_of names base size limit ≡ 0
no_blocks names base size limit some none =
    let empty : segment_length names base 0 ≡ 0 = rw none refl in
    one_segment names base size limit (omega (arith, some, empty)) ∙ empty

-- A file

large_is : (which : Which) (large : Bool) (blocks : ℕ) → large ≡ true → large_by which large blocks ≡ Some (TooLarge which blocks (limit_of which))
large_is which large blocks e = rw e refl

held_is_large : (which : Which) (o : Option (List ℕ)) (blocks : ℕ) → (o ≡ None → blocks ≡ 0) → limit_of which < blocks → refused_by which o blocks ≡ Some (TooLarge which blocks (limit_of which))
held_is_large which None blocks none lt = absurd (omega (arith, none refl))
held_is_large which (Some bytes) blocks none lt = large_is which (nat_lt (limit_of which) blocks) blocks (grind (arith, common_steps))

held_is_small : (which : Which) (o : Option (List ℕ)) (blocks : ℕ) → IsSome o → blocks ≤ limit_of which → refused_by which o blocks ≡ None
held_is_small which None blocks held le = cc
held_is_small which (Some bytes) blocks held le = small (nat_lt (limit_of which) blocks) (grind (arith, common_steps))
  where
    small : (large : Bool) → large ≡ false → large_by which large blocks ≡ None
    small large e = rw e refl

-- a relation that is attached is refused by nothing
pub attached_is_not_refused : (which : Which) (names : Names) (base : List ℕ) (size : ℕ) (r : Relation) → IsRelationOf names base size (limit_of which) r → count_of r ≤ limit_of which → file_refusal which names base size ≡ None
unfolding file_refusal
attached_is_not_refused which names base size r is within =
    let few : blocks_of names base size (limit_of which) ≤ limit_of which = omega (arith, is.count, within) in
    held_is_small which _ _ is.held few

-- a refusal to attach it is its refusal
pub refused_is_refusal : (which : Which) (names : Names) (base : List ℕ) (size : ℕ) (fault : AttachFault) → 1 ≤ size → IsRefused names base size (limit_of which) fault → TellsRefusal {T = Relation} (file_refusal which names base size) (Err (fault_of which fault))
unfolding file_refusal
refused_is_refusal which names base size attach.NoFile some none = rw none refl
refused_is_refusal which names base size (attach.TooLarge blocks limit) some large =
    held_is_large which _ _ (no_blocks names base size (limit_of which) some) large.0
    ∙ rw (large.1, large.2) refl
refused_is_refusal which names base size attach.ReadFault some is = tt
refused_is_refusal which names base size attach.NoMemory some is = tt

-- Two files, of which the first to be refused is the refusal of both

-- an error tells the same refusal, whatever its call would have answered
pub tells_alike : (T U : Type 0) (refusal : Option CheckFault) (fault : CheckFault) → TellsRefusal {T = T} refusal (Err fault) → TellsRefusal {T = U} refusal (Err fault)
tells_alike T U refusal (NoFile which) tells = tells
tells_alike T U refusal (TooLarge which blocks limit) tells = tells
tells_alike T U refusal ReadFault tells = tt
tells_alike T U refusal NoMemory tells = tt

pub first_tells : (T U : Type 0) (first second : Option CheckFault) (fault : CheckFault) → TellsRefusal {T = T} first (Err fault) → TellsRefusal {T = U} (option_or first second) (Err fault)
first_tells T U first second (NoFile which) tells = rw tells refl
first_tells T U first second (TooLarge which blocks limit) tells = rw tells refl
first_tells T U first second ReadFault tells = tt
first_tells T U first second NoMemory tells = tt

pub second_tells : (T U : Type 0) (first second : Option CheckFault) (fault : CheckFault) → first ≡ None → TellsRefusal {T = T} second (Err fault) → TellsRefusal {T = U} (option_or first second) (Err fault)
second_tells T U first second (NoFile which) none tells = rw none tells
second_tells T U first second (TooLarge which blocks limit) none tells = rw none tells
second_tells T U first second ReadFault none tells = tt
second_tells T U first second NoMemory none tells = tt

-- a fault and want of memory tell of no refusal
pub nothing_told : (T : Type 0) (refusal : Option CheckFault) (fault : CheckFault) → (fault ≡ ReadFault) ⊎ (fault ≡ NoMemory) → TellsRefusal {T = T} refusal (Err fault)
nothing_told T refusal fault (inl e) = subst (λ (f : CheckFault). TellsRefusal {T = T} refusal (Err f)) (sym e) tt
nothing_told T refusal fault (inr e) = subst (λ (f : CheckFault). TellsRefusal {T = T} refusal (Err f)) (sym e) tt
