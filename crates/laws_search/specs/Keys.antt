-- Entries, separators and scans by key columns, each column with an order of its own.
-- V stands for the values of a column, T for the places of tuples in the table (TIDs).
use Rattle.std.specs.Prelude.{◌≡◌, ◌≤◌, ℕ, suc, Bool, true, false, not, ◌&&◌, ◌||◌, nat_le, nat_lt, List, [], ◌∷◌}
use Rattle.std.specs.Prelude.{length, Option, Some, None}
use Rattle.std.specs.Ordering.{ordering_then, is_lt, is_le}
use Rattle.std.specs.declared.cmp.Ordering.{Ordering}
use Rattle.std.specs.declared.cmp.Ordering.TheVariants.{Less, Equal, Greater}
use Rattle.laws_search.specs.Order.{Order, Scan}
use Rattle.laws_search.specs.Back.{Back}

pub record Entry (V T : Type 0) : Type 0 where
  pub values : List V
  pub tid : T
  pub killed : Bool

-- the values that are kept, and perhaps a TID. Minus infinity keeps nothing
pub record Separator (V T : Type 0) : Type 0 where
  pub kept : List V
  pub tid : Option T

-- the order of each column, counted from 0, with its direction and the place of its nulls
abbrev pub Columns : Type 0 → Type 0
Columns V = ℕ → V → V → Ordering

-- column by column, from the i-th on. What is missing is below every value
abbrev pub compare_values : {V : Type 0} → Columns V → ℕ → List V → List V → Ordering
compare_values cs i [] [] = Equal
compare_values cs i [] (y ∷ ys) = Less
compare_values cs i (x ∷ xs) [] = Greater
compare_values cs i (x ∷ xs) (y ∷ ys) = ordering_then (cs i x y) (compare_values cs (suc i) xs ys)

-- a missing TID is below every TID
abbrev pub compare_tids : {T : Type 0} → (T → T → Ordering) → Option T → Option T → Ordering
compare_tids ts None None = Equal
compare_tids ts None (Some u) = Less
compare_tids ts (Some t) None = Greater
compare_tids ts (Some t) (Some u) = ts t u

-- by the values, and where these are equal by the TID
abbrev pub compare_keys : {V T : Type 0} → Columns V → (T → T → Ordering) → Separator V T → Separator V T → Ordering
compare_keys cs ts s t = ordering_then (compare_values cs 0 s.kept t.kept) (compare_tids ts s.tid t.tid)

-- an entry is compared as a separator that lacks nothing
abbrev pub as_separator : {V T : Type 0} → Entry V T → Separator V T
as_separator e = record { kept = e.values; tid = Some e.tid }

abbrev pub key_order : {V T : Type 0} → Columns V → (T → T → Ordering) → Order (Separator V T) (Entry V T)
key_order cs ts =
    record {
      precedes = λ d e. is_lt (compare_keys cs ts (as_separator d) (as_separator e));
      within = λ e s. is_le (compare_keys cs ts (as_separator e) s);
      under = λ s t. is_lt (compare_keys cs ts s t);
    }

abbrev pub is_without : {T : Type 0} → Option T → Bool
is_without None = true
is_without (Some t) = false

-- a separator of a key of n columns: it keeps no more of them, and has a TID only where it keeps them all
pub record IsSeparatorOf {V T : Type 0} (n : ℕ) (s : Separator V T) : Type 0 where
  pub few : length s.kept ≤ n
  pub whole : is_without s.tid ≡ false → length s.kept ≡ n

-- A bound on the first columns. One without values is no bound.
pub record Bound (V : Type 0) : Type 0 where
  pub values : List V
  pub inclusive : Bool

-- the bound's values against as many first values
abbrev pub compare_first : {V : Type 0} → Columns V → ℕ → List V → List V → Ordering
compare_first cs i [] ys = Equal
compare_first cs i (x ∷ xs) [] = Greater
compare_first cs i (x ∷ xs) (y ∷ ys) = ordering_then (cs i x y) (compare_first cs (suc i) xs ys)

-- the bound's values against the kept ones, as far as both go
abbrev pub compare_both : {V : Type 0} → Columns V → ℕ → List V → List V → Ordering
compare_both cs i [] ys = Equal
compare_both cs i (x ∷ xs) [] = Equal
compare_both cs i (x ∷ xs) (y ∷ ys) = ordering_then (cs i x y) (compare_both cs (suc i) xs ys)

-- above, or equal where this counts as above
abbrev pub is_above : Ordering → Bool → Bool
is_above Less at_tie = false
is_above Equal at_tie = at_tie
is_above Greater at_tie = true

-- below, or equal where this counts as below
abbrev pub is_below : Ordering → Bool → Bool
is_below Less at_tie = true
is_below Equal at_tie = at_tie
is_below Greater at_tie = false

-- The table of going right. The columns: how the low bound stands to the separator, whether the bound is inclusive,
-- whether the separator keeps no more values than the bound has, whether it has no TID.
abbrev pub right_table : Ordering → (inclusive no_longer without_tid : Bool) → Bool
right_table Greater inclusive no_longer without_tid = true
right_table Less inclusive no_longer without_tid = false
right_table Equal false no_longer without_tid = true
right_table Equal true true without_tid = without_tid
right_table Equal true false without_tid = false

-- without a bound never, and right of minus infinity always
abbrev pub right_of_kept : {V T : Type 0} → Columns V → List V → Bool → List V → Option T → Bool
right_of_kept cs [] inclusive kept tid = false
right_of_kept cs (x ∷ xs) inclusive [] tid = true
right_of_kept cs (x ∷ xs) inclusive (k ∷ ks) tid =
    right_table (compare_both cs 0 (x ∷ xs) (k ∷ ks)) inclusive
    (nat_le (length (k ∷ ks)) (length (x ∷ xs))) (is_without tid)

abbrev pub goes_right : {V T : Type 0} → Columns V → Bound V → Separator V T → Bool
goes_right cs low s = right_of_kept cs low.values low.inclusive s.kept s.tid

-- the values are below the low bound, or equal to it where it is exclusive
abbrev pub before_bound : {V : Type 0} → Columns V → List V → Bool → List V → Bool
before_bound cs [] inclusive vs = false
before_bound cs (x ∷ xs) inclusive vs = is_above (compare_first cs 0 (x ∷ xs) vs) (not inclusive)

-- the values are above the high bound, or equal to it where it is exclusive
abbrev pub past_bound : {V : Type 0} → Columns V → List V → Bool → List V → Bool
past_bound cs [] inclusive vs = false
past_bound cs (x ∷ xs) inclusive vs = is_below (compare_first cs 0 (x ∷ xs) vs) (not inclusive)

-- the values keep to both bounds
abbrev pub in_bounds : {V : Type 0} → Columns V → Bound V → Bound V → List V → Bool
in_bounds cs low high vs =
    not (before_bound cs low.values low.inclusive vs) && not (past_bound cs high.values high.inclusive vs)

-- the entries between two bounds
abbrev pub scan_between : {V T : Type 0} → Columns V → Bound V → Bound V → Scan (Separator V T) (Entry V T)
scan_between cs low high =
    record {
      goes_right = λ s. goes_right cs low s;
      matches = λ e. in_bounds cs low high e.values;
      past_high = λ e. past_bound cs high.values high.inclusive e.values;
    }

-- does the high bound reach beyond what a separator keeps: an equal one does where it is inclusive, or longer
abbrev pub reaches_beyond : {V : Type 0} → Columns V → List V → Bool → List V → Bool
reaches_beyond cs [] inclusive kept = true
reaches_beyond cs (x ∷ xs) inclusive [] = true
reaches_beyond cs (x ∷ xs) inclusive (k ∷ ks) =
    is_above (compare_both cs 0 (x ∷ xs) (k ∷ ks)) (inclusive || nat_lt (length (k ∷ ks)) (length (x ∷ xs)))

abbrev pub back_between : {V T : Type 0} → Columns V → Bound V → Bound V → Back (Separator V T) (Entry V T)
back_between cs low high =
    record {
      reaches = λ s. reaches_beyond cs high.values high.inclusive s.kept;
      before_low = λ e. before_bound cs low.values low.inclusive e.values;
    }
