-- Separators that keep as few values as they need.
use Rattle.std.specs.Prelude.{◌≡◌, ◌≢◌, ◌<◌, ◌≤◌, ℕ, suc, List, [], ◌∷◌, length, take, Some, None}
use Rattle.std.specs.declared.cmp.Ordering.{Ordering}
use Rattle.std.specs.declared.cmp.Ordering.TheVariants.{Less, Equal, Greater}
use Rattle.laws_search.specs.Keys.{Entry, Separator, Columns, compare_values}
use Rattle.laws_building.specs.Built.{Splitter}

-- the value y of the right entry, and where the left one has an equal value, what else is kept
abbrev pub keep_by : {V T : Type 0} → Ordering → V → Separator V T → Separator V T
keep_by Less y rest = record { kept = y ∷ []; tid = None }
keep_by Equal y rest = record { kept = y ∷ rest.kept; tid = rest.tid }
keep_by Greater y rest = record { kept = y ∷ []; tid = None }

-- The first right values, from column i on, as few as differ from the left ones. If all are equal, all of them and the
-- left TID
abbrev pub split_values : {V T : Type 0}
    → Columns V → (tid : T) → (left right : List V) → (i : ℕ) → Separator V T
split_values cs tid left [] i = record { kept = []; tid = Some tid }
split_values cs tid [] (y ∷ ys) i = record { kept = y ∷ []; tid = None }
split_values cs tid (x ∷ xs) (y ∷ ys) i = keep_by (cs i x y) y (split_values cs tid xs ys (suc i))

abbrev pub key_splitter : {V T : Type 0} → Columns V → Splitter (Separator V T) (Entry V T)
key_splitter cs =
    record {
      split_key = λ d e. split_values cs d.tid d.values e.values 0;
      nothing = record { kept = []; tid = None };
    }

-- The separator keeps first values of the right entry: as few as differ from the left one, or all with the left TID
pub record IsShortest {V T : Type 0} (cs : Columns V) (d e : Entry V T) (s : Separator V T) : Type 0 where
  pub front : s.kept ≡ take (length s.kept) e.values
  -- fewer don't differ
  pub fewest : (n : ℕ) → n < length s.kept → compare_values cs 0 (take n d.values) (take n e.values) ≡ Equal
  pub differs : s.tid ≡ None → compare_values cs 0 (take (length s.kept) d.values) s.kept ≢ Equal
  -- with a TID nothing differs
  pub with_tid : (t : T) → s.tid ≡ Some t
      → (t ≡ d.tid) × (s.kept ≡ e.values) × (compare_values cs 0 d.values e.values ≡ Equal)

-- it keeps one to all of the columns, and a TID only with all
pub record IsPivotShape {V T : Type 0} (columns : ℕ) (s : Separator V T) : Type 0 where
  pub some : 0 < length s.kept
  pub not_more : length s.kept ≤ columns
  pub tid_with_all : s.tid ≢ None → length s.kept ≡ columns
