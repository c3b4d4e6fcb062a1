-- Whether two separators by key columns are the same.
use Rattle.std.specs.Prelude.{◌≡◌, Bool}
use Rattle.std.specs.Ordering.{is_eq}
use Rattle.std.specs.declared.cmp.Ordering.{Ordering}
use Rattle.std.specs.declared.cmp.Ordering.TheVariants.{Equal}
use Rattle.laws_search.specs.Keys.{Separator, Columns, compare_keys}

-- what compares equal is the same
abbrev pub TellsApart : {K : Type 0} → (K → K → Ordering) → Type 0
TellsApart {K} compare = (a b : K) → compare a b ≡ Equal → a ≡ b

abbrev pub same_keys : {V T : Type 0} → Columns V → (T → T → Ordering) → Separator V T → Separator V T → Bool
same_keys cs ts s t = is_eq (compare_keys cs ts s t)
