-- The columns of an index of a case.
use Rattle.std.proofs.Common.{◌≡◌, ℕ, ◌-◌, ◌<◌, ◌≤◌, true, List, [], ◌∷◌, length, get_or, refl, sym, ap, subst, arith}
use Rattle.std.specs.Prelude.{All, slice_get, unwrap_or, option_map, Option, Some, None}
use Rattle.std.specs.List.{AllByRecursion}
use Rattle.std.proofs.lemmas.List.Elements.{All-cons, All-from_recursion, All-nil}
use Rattle.std.proofs.lemmas.Option.{slice_get-get_or}
use Rattle.key_orders.specs.declared.columns.ColType.{ColType}
use Rattle.key_orders.specs.declared.columns.ColType.TheVariants.{Bool as BoolType, Int2, Int4, Int8, Uuid, Text, Bytea, Oid, Date, Timestamp, Timestamptz, Fixed, Varlena}
use Rattle.key_orders.specs.declared.columns.KeySpec.{KeySpec}
use Rattle.key_orders.specs.Types.{HasAlignment, may_be_key}
use Rattle.key_attrs.specs.Keyed.{key_types, more_types}
use Rattle.case_file.specs.declared.case.Column.{Column}
use Rattle.case_file.specs.Record.{CaseRecord, IndexRecord}
use Rattle.case_file.specs.Sound.{IsSound, IsSoundIndex, IsSoundKey}
use Rattle.case_file.proofs.Aligned.{more_aligned}
use Rattle.bt_levels.specs.Index.{index_of, no_index}

keyed-aligned : (t : ColType) → may_be_key t ≡ true → HasAlignment t
keyed-aligned BoolType e = refl
keyed-aligned Int2 e = refl
keyed-aligned Int4 e = refl
keyed-aligned Int8 e = refl
keyed-aligned Uuid e = refl
keyed-aligned Text e = refl
keyed-aligned Bytea e = refl
keyed-aligned Oid e = refl
keyed-aligned Date e = refl
keyed-aligned Timestamp e = refl
keyed-aligned Timestamptz e = refl
keyed-aligned (Fixed len align) e = absurd cc
keyed-aligned (Varlena align) e = absurd cc

keys-aligned : (columns : List Column) (keys : List KeySpec) → AllByRecursion (IsSoundKey columns) keys → All HasAlignment (key_types keys)
keys-aligned columns [] sound = All-nil HasAlignment
keys-aligned columns (key ∷ keys) sound = All-cons HasAlignment key.ctype (key_types keys) (keyed-aligned key.ctype sound.0.may_be_key) (keys-aligned columns keys sound.1)

index-sound : (case : CaseRecord) (n : ℕ) → IsSound case → 1 ≤ n → n ≤ length case.indexes → IsSoundIndex case.columns (index_of case n)
index-sound case n sound first last =
    let within : n - 1 < length case.indexes = omega arith in
    let at : get_or case.indexes (n - 1) no_index ≡ index_of case n = sym (ap (λ (o : Option IndexRecord). unwrap_or o no_index) (slice_get-get_or case.indexes (n - 1) no_index within)) in
    subst (IsSoundIndex case.columns) at (All-from_recursion (IsSoundIndex case.columns) case.indexes sound.indexes (n - 1) no_index within)

pub few-keys : (case : CaseRecord) (n : ℕ) → IsSound case → 1 ≤ n → n ≤ length case.indexes → length (index_of case n).keys ≤ 8
few-keys case n sound first last = let s = index-sound case n sound first last in grind arith

pub aligned-keys : (case : CaseRecord) (n : ℕ) → IsSound case → 1 ≤ n → n ≤ length case.indexes → All HasAlignment (key_types (index_of case n).keys)
aligned-keys case n sound first last = keys-aligned case.columns (index_of case n).keys (index-sound case n sound first last).keys

pub few-more : (case : CaseRecord) (n : ℕ) → IsSound case → 1 ≤ n → n ≤ length case.indexes → length (index_of case n).more ≤ 24
few-more case n sound first last = (index-sound case n sound first last).few_more

pub aligned-more : (case : CaseRecord) (n : ℕ) → IsSound case → 1 ≤ n → n ≤ length case.indexes → All HasAlignment (more_types (index_of case n).more)
aligned-more case n sound first last = more_aligned case.columns (index_of case n).more sound.columns (index-sound case n sound first last).more

-- what an index is asked for
pub index-has : {X : Type 0} (f : IndexRecord → X) (case : CaseRecord) (n : ℕ) (x : X) → option_map f (slice_get case.indexes (n - 1)) ≡ Some x → x ≡ f (index_of case n)
index-has f case n x e = given f (slice_get case.indexes (n - 1)) x e
  where
    given : {X : Type 0} (f : IndexRecord → X) (o : Option IndexRecord) (x : X) → option_map f o ≡ Some x → x ≡ f (unwrap_or o no_index)
    given f None x e = absurd cc
    given f (Some i) x e = cc
