-- What is left for the searcher at a place of a leaf.
use Rattle.std.specs.Prelude.{◌≡◌, ◌≢◌, ◌≤◌, ◌<◌, ◌+◌, ◌==◌, ℕ, zero, suc, Bool, true, false, not, ◌||◌, cond, List}
use Rattle.std.specs.Prelude.{[], ◌∷◌, take_while, take, drop, length, slice_get, Some}
use Rattle.std.specs.List.{filter, list_any}
use Rattle.laws_search.specs.Order.{Scan}
use Rattle.laws_search.specs.Tree.{Index}
use Rattle.laws_search.specs.Search.{State, At, Ended, Stuck, is_wanted, right_of, visit, after_visits, search_start}

-- the visit to a leaf from its j-th entry on
unfoldable pub from_place : {S E : Type 0} → (E → Bool) → Index S E → Scan S E → ℕ → ℕ → State E
from_place killed x scan b j =
    cond (list_any scan.past_high (drop j (x.page b).entries) || (x.page b).next == 0)
    (Ended (filter (is_wanted killed scan) (take_while (λ e. not (scan.past_high e)) (drop j (x.page b).entries))))
    (At (x.page b).next
    (filter (is_wanted killed scan) (take_while (λ e. not (scan.past_high e)) (drop j (x.page b).entries))))

abbrev pub yielded_of : {E : Type 0} → State E → List E
yielded_of (At b ys) = ys
yielded_of (Ended ys) = ys
yielded_of Stuck = []

-- how many visits are made before the searcher has ended, at most n
abbrev pub visits_made : {S E : Type 0} → (E → Bool) → Index S E → Scan S E → ℕ → State E → ℕ
visits_made killed x scan zero s = 0
visits_made killed x scan (suc n) (At b ys) = suc (visits_made killed x scan n (visit killed x scan b ys))
visits_made killed x scan (suc n) (Ended ys) = 0
visits_made killed x scan (suc n) Stuck = 0

-- what a state leads to, and by how many visits
unfoldable pub rest_of : {S E : Type 0} → (E → Bool) → Index S E → Scan S E → State E → List E
rest_of killed x scan s = yielded_of (after_visits killed x scan x.blocks s)

unfoldable pub left_of : {S E : Type 0} → (E → Bool) → Index S E → Scan S E → State E → ℕ
left_of killed x scan s = visits_made killed x scan x.blocks s

-- The place stands at the scan: the searcher comes to its page and reads it there, and no entry before it is past the
-- high bound.
pub record Stands {S E : Type 0} (killed : E → Bool) (x : Index S E) (scan : Scan S E) (b j : ℕ) : Type 0 where
  pub visits : ℕ
  pub so_far : List E
  pub comes : after_visits killed x scan visits (search_start x) ≡ At b so_far
  pub reads : (right_of scan.goes_right (x.page b).high_key || (x.page b).half_dead) ≡ false
  pub leaf : (x.page b).leaf ≡ true
  pub within : j ≤ length (x.page b).entries
  pub none_past : list_any scan.past_high (take j (x.page b).entries) ≡ false

-- what each step of a reader along the leaves may rely on
pub record ReadsOn {S E : Type 0} (killed : E → Bool) (x : Index S E) (scan : Scan S E) (b j : ℕ) : Type 0 where
  -- an entry that is past the high bound ends it
  pub past : (e : E) → slice_get (x.page b).entries j ≡ Some e → scan.past_high e ≡ true
      → (rest_of killed x scan (from_place killed x scan b j) ≡ [])
      × (left_of killed x scan (from_place killed x scan b j) ≡ 0)
  -- one that is wanted comes first, and what is left behind it follows
  pub wanted : (e : E) → slice_get (x.page b).entries j ≡ Some e
      → scan.past_high e ≡ false → is_wanted killed scan e ≡ true
      → (rest_of killed x scan (from_place killed x scan b j)
      ≡ e ∷ rest_of killed x scan (from_place killed x scan b (j + 1)))
      × (left_of killed x scan (from_place killed x scan b j)
      ≡ left_of killed x scan (from_place killed x scan b (j + 1)))
      × Stands killed x scan b (j + 1)
  -- one that isn't is passed over
  pub other : (e : E) → slice_get (x.page b).entries j ≡ Some e
      → scan.past_high e ≡ false → is_wanted killed scan e ≡ false
      → (rest_of killed x scan (from_place killed x scan b j)
      ≡ rest_of killed x scan (from_place killed x scan b (j + 1)))
      × (left_of killed x scan (from_place killed x scan b j)
      ≡ left_of killed x scan (from_place killed x scan b (j + 1)))
      × Stands killed x scan b (j + 1)
  -- at the end of the last page nothing is left
  pub last : j ≡ length (x.page b).entries → (x.page b).next ≡ 0
      → (rest_of killed x scan (from_place killed x scan b j) ≡ [])
      × (left_of killed x scan (from_place killed x scan b j) ≡ 0)
  -- at that of another what is left is what the right sibling leads to
  pub next : j ≡ length (x.page b).entries → (x.page b).next ≢ 0 →
      (rest_of killed x scan (from_place killed x scan b j) ≡ rest_of killed x scan (At (x.page b).next []))
      × (left_of killed x scan (from_place killed x scan b j) ≡ left_of killed x scan (At (x.page b).next []))

-- the searcher comes to this page
pub record IsVisited {S E : Type 0} (killed : E → Bool) (x : Index S E) (scan : Scan S E) (b : ℕ) : Type 0 where
  pub visits : ℕ
  pub so_far : List E
  pub comes : after_visits killed x scan visits (search_start x) ≡ At b so_far

-- what each visit does to what is left
pub record VisitsOn {S E : Type 0} (killed : E → Bool) (x : Index S E) (scan : Scan S E) (b : ℕ) : Type 0 where
  pub rest : rest_of killed x scan (At b []) ≡ rest_of killed x scan (visit killed x scan b [])
  pub left : left_of killed x scan (At b []) ≡ suc (left_of killed x scan (visit killed x scan b []))
  -- the page can be visited
  pub not_meta : b ≢ 0
  pub inside : b < x.blocks
  pub used : (x.page b).idle ≡ false
  -- the page that the visit leads to is visited too
  pub goes_on : (c : ℕ) (ys : List E) → visit killed x scan b [] ≡ At c ys → IsVisited killed x scan c
  -- a leaf that is read is read from its first entry on
  pub reads : (right_of scan.goes_right (x.page b).high_key || (x.page b).half_dead) ≡ false → (x.page b).leaf ≡ true
      → (visit killed x scan b [] ≡ from_place killed x scan b 0) × Stands killed x scan b 0

-- for every scan
abbrev pub ReadsInSteps : {S E : Type 0} → Index S E → Type 0
ReadsInSteps {S} {E} x =
    (killed : E → Bool) (scan : Scan S E) (goal : List E)
    → after_visits killed x scan x.blocks (search_start x) ≡ Ended goal
    → (rest_of killed x scan (search_start x) ≡ goal)
    × ((b : ℕ) → IsVisited killed x scan b → VisitsOn killed x scan b)
    × ((b j : ℕ) → Stands killed x scan b j → ReadsOn killed x scan b j)
