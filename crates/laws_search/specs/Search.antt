-- What a scan is to find, and the searcher that finds it.
use Rattle.std.specs.Prelude.{◌≡◌, ◌==◌, ℕ, zero, suc, Bool, true, false, not, ◌&&◌, ◌||◌, cond, nat_lt, List, []}
use Rattle.std.specs.Prelude.{◌∷◌, ◌++◌, Option, Some, None, length, take_while}
use Rattle.std.specs.List.{filter, flat_map, list_any, AllAdjacentBelow}
use Rattle.std.specs.List.Sorted.{IsPermutation}
use Rattle.laws_search.specs.Order.{Order, Scan, IsScan}
use Rattle.laws_search.specs.Tree.{Page, Index}

-- the blocks from 1 to n - 1, rising
abbrev pub tree_blocks : ℕ → List ℕ
tree_blocks zero = []
tree_blocks (suc zero) = []
tree_blocks (suc (suc n)) = tree_blocks (suc n) ++ suc n ∷ []

-- the entries of a leaf that is in use and not half-dead
abbrev pub leaf_entries : {S E : Type 0} → Page S E → List E
leaf_entries p = cond (p.leaf && (not p.idle && not p.half_dead)) p.entries []

-- the entries of the file, block by block, linked or not
abbrev pub entries_of : {S E : Type 0} → Index S E → List E
entries_of x = flat_map (λ b. leaf_entries (x.page b)) (tree_blocks x.blocks)

-- the scan is to yield this entry
abbrev pub is_wanted : {S E : Type 0} → (E → Bool) → Scan S E → E → Bool
is_wanted killed scan e = scan.matches e && not (killed e)

-- these are the matching unkilled entries of the file, each once, in order
pub record IsWanted {S E : Type 0} (o : Order S E) (killed : E → Bool) (x : Index S E) (scan : Scan S E)
    (es : List E) : Type 0 where
  pub all_of_them : IsPermutation es (filter (is_wanted killed scan) (entries_of x))
  pub rising : AllAdjacentBelow (λ d e. o.precedes d e ≡ true) es (length es)

-- The searcher stands before a page with what it has yielded, or has ended, or is stuck.
pub data State (E : Type 0) : Type 0 where
  At : (block : ℕ) (yielded : List E) → State E
  Ended : (yielded : List E) → State E
  Stuck : State E

-- the scan goes right of the high key
abbrev pub right_of : {S : Type 0} → (S → Bool) → Option S → Bool
right_of goes None = false
right_of goes (Some s) = goes s

abbrev pub last_or : {X : Type 0} → X → List X → X
last_or x [] = x
last_or x (y ∷ ys) = last_or y ys

-- to the last data item whose separator the scan goes right of, else to the first
abbrev pub descend : {S E : Type 0} → Scan S E → List (S × ℕ) → List E → State E
descend scan [] ys = Stuck
descend scan (c ∷ cs) ys = At (last_or c (filter (λ d. scan.goes_right d.0) cs)).1 ys

-- the entries that the scan wants, up to the first that is past the high bound
unfoldable pub found_on : {S E : Type 0} → (E → Bool) → Scan S E → Page S E → List E
found_on killed scan p = filter (is_wanted killed scan) (take_while (λ e. not (scan.past_high e)) p.entries)

-- one visit to a page
unfoldable pub visit_page : {S E : Type 0} → (E → Bool) → Scan S E → Page S E → List E → State E
visit_page killed scan p ys =
    cond (right_of scan.goes_right p.high_key || p.half_dead) (At p.next ys)
    (cond (not p.leaf) (descend scan p.children ys)
    (cond (list_any scan.past_high p.entries || p.next == 0) (Ended (ys ++ found_on killed scan p))
    (At p.next (ys ++ found_on killed scan p))))

-- one visit. Block 0, a block past the end and an idle one leave the searcher stuck
unfoldable pub visit : {S E : Type 0} → (E → Bool) → Index S E → Scan S E → ℕ → List E → State E
visit killed x scan b ys =
    cond (not (b == 0) && (nat_lt b x.blocks && not (x.page b).idle)) (visit_page killed scan (x.page b) ys) Stuck

-- after at most n visits
abbrev pub after_visits : {S E : Type 0} → (E → Bool) → Index S E → Scan S E → ℕ → State E → State E
after_visits killed x scan zero s = s
after_visits killed x scan (suc n) (At b ys) = after_visits killed x scan n (visit killed x scan b ys)
after_visits killed x scan (suc n) (Ended ys) = Ended ys
after_visits killed x scan (suc n) Stuck = Stuck

unfoldable pub search_start : {S E : Type 0} → Index S E → State E
search_start x = cond (x.fastroot == 0) (Ended []) (At x.fastroot [])

-- the searcher's list, if it has ended after at most n visits
abbrev pub Answers : {S E : Type 0} → (E → Bool) → Index S E → Scan S E → ℕ → List E → Type 0
Answers killed x scan n es = after_visits killed x scan n (search_start x) ≡ Ended es

-- whatever the scan, the searcher ends within as many visits as there are blocks, and has yielded exactly what it is to
-- find
abbrev pub FindsAll : {S E : Type 0} → Order S E → Index S E → Type 0
FindsAll {S} {E} o x =
    (killed : E → Bool) (scan : Scan S E) → IsScan o scan
    → (es : List E) × IsWanted o killed x scan es × Answers killed x scan x.blocks es

-- what the scan is to find is one list, and it is the searcher's
abbrev pub FindsOnly : {S E : Type 0} → Order S E → Index S E → Type 0
FindsOnly {S} {E} o x =
    (killed : E → Bool) (scan : Scan S E) → IsScan o scan
    → (es : List E) → IsWanted o killed x scan es → Answers killed x scan x.blocks es
