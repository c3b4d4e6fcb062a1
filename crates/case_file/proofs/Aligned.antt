-- The columns that an index includes are of types that are aligned at 1, 2, 4 or 8.
use Rattle.std.proofs.Common.{◌≡◌, ℕ, zero, suc, true, List, [], ◌∷◌, Some, option_map, map, refl, subst, arith}
use Rattle.std.proofs.lemmas.Bool.{and_parts}
use Rattle.std.proofs.lemmas.Bool.Decides.{nat_tests}
use Rattle.std.proofs.lemmas.List.Elements.{All-cons, All-nil}
use Rattle.std.specs.Int.{is_in_range}
use Rattle.std.specs.List.{All, AllByRecursion, slice_get}
use Rattle.key_orders.specs.declared.columns.ColType.{ColType}
use Rattle.key_orders.specs.declared.columns.ColType.TheVariants.{Bool as BoolType, Int2, Int4, Int8, Uuid, Text, Bytea, Oid, Date, Timestamp, Timestamptz, Fixed, Varlena}
use Rattle.key_orders.specs.declared.more.MoreSpec.{MoreSpec}
use Rattle.key_orders.specs.Types.{HasAlignment, is_alignment}
use Rattle.case_file.specs.declared.case.Column.{Column}
use Rattle.case_file.specs.Sound.{IsSoundColumn, IsSoundMore, is_sound_type}

pub aligned : (ctype : ColType) → is_sound_type ctype ≡ true → HasAlignment ctype
aligned BoolType e = refl
aligned Int2 e = refl
aligned Int4 e = refl
aligned Int8 e = refl
aligned Uuid e = refl
aligned Text e = refl
aligned Bytea e = refl
aligned Oid e = refl
aligned Date e = refl
aligned Timestamp e = refl
aligned Timestamptz e = refl
aligned (Fixed len align) e = (and_parts (is_in_range 1 8000 len) (is_alignment align) e).1
aligned (Varlena align) e = grind (arith, nat_tests)

at_column : (columns : List Column) (k : ℕ) (ctype : ColType) → AllByRecursion IsSoundColumn columns
    → option_map (λ (c : Column). c.ctype) (slice_get columns k) ≡ Some ctype
    → HasAlignment ctype
at_column [] k ctype sound there = absurd cc
at_column (c ∷ columns) zero ctype sound there = let same : c.ctype ≡ ctype = cc in subst HasAlignment same (aligned c.ctype sound.0.ctype)
at_column (c ∷ columns) (suc k) ctype sound there = at_column columns k ctype sound.1 there

pub more_aligned : (columns : List Column) (more : List MoreSpec) → AllByRecursion IsSoundColumn columns → AllByRecursion (IsSoundMore columns) more
    → All HasAlignment (map (λ (m : MoreSpec). m.ctype) more)
more_aligned columns [] sound all = All-nil HasAlignment
more_aligned columns (m ∷ more) sound all =
    All-cons HasAlignment m.ctype (map (λ (n : MoreSpec). n.ctype) more) (at_column columns m.column m.ctype sound all.0.is_there) (more_aligned columns more sound all.1)
