-- Chains of versions on one heap page: steps, roots, and the rules of chains. Items are counted from 1.
use Rattle.std.specs.Prelude.{◌≡◌, ℕ, zero, suc, ◌-◌, ◌≤◌, Bool, true, false, not, ◌==◌, ◌&&◌, ◌||◌, if◌then◌else◌}
use Rattle.std.specs.Prelude.{List, [], ◌∷◌, length, get_or, Option, Some, None, find}
use Rattle.page_layout.specs.declared.rules.Rule.{Rule}
use Rattle.page_layout.specs.declared.rules.Rule.TheVariants.{H3, H14, H15, H16}
use Rattle.tuple_head.specs.Head.{is_heap_only, is_hot_updated, seen_xmin}
use Rattle.liveness.specs.declared.states.ItemState.{ItemState}
use Rattle.liveness.specs.declared.states.ItemState.TheVariants.{Unused, Dead, Redirect, Tuple}
use Rattle.liveness.specs.declared.states.Life.{Life}
use Rattle.liveness.specs.declared.states.Life.TheVariants.{Live, Dead as dead_life, Unjudged, Broken}

-- Items

-- item i of the page; number 0 and numbers past the end name nothing
unfoldable pub item_at : List ItemState → ℕ → ItemState
item_at items i = if i == 0 then Unused else get_or items (i - 1) Unused

abbrev pub is_dead : Life → Bool
is_dead dead_life = true
is_dead Live = false
is_dead (Unjudged doubt) = false
is_dead (Broken rule) = false

abbrev pub is_live : Life → Bool
is_live Live = true
is_live dead_life = false
is_live (Unjudged doubt) = false
is_live (Broken rule) = false

-- a normal tuple that no index entry names
abbrev pub is_heap_only_tuple : ItemState → Bool
is_heap_only_tuple (Tuple head judged) = is_heap_only head
is_heap_only_tuple Unused = false
is_heap_only_tuple Dead = false
is_heap_only_tuple (Redirect target) = false

-- a normal tuple that transaction x is seen to have inserted
abbrev pub is_tuple_of : ℕ → ItemState → Bool
is_tuple_of x (Tuple head judged) = seen_xmin head == x
is_tuple_of x Unused = false
is_tuple_of x Dead = false
is_tuple_of x (Redirect target) = false

abbrev pub is_live_tuple : ItemState → Bool
is_live_tuple (Tuple head judged) = is_live judged.life
is_live_tuple Unused = false
is_live_tuple Dead = false
is_live_tuple (Redirect target) = false

abbrev pub is_tuple : ItemState → Bool
is_tuple (Tuple head judged) = true
is_tuple Unused = false
is_tuple Dead = false
is_tuple (Redirect target) = false

-- redirects and normal tuples that aren't heap-only: what index entries may name
abbrev pub is_root : ItemState → Bool
is_root (Redirect target) = true
is_root (Tuple head judged) = not (is_heap_only head)
is_root Unused = false
is_root Dead = false

-- Steps and roots

-- item i, the state of which is given first, steps to item j of the given state
abbrev pub steps : ℕ → ℕ → ItemState → ℕ → ItemState → Bool
steps block i (Redirect target) j to = is_heap_only_tuple to && (target == j)
steps block i (Tuple head judged) j to =
    is_tuple_of judged.update to && not (judged.update == 0) && is_dead judged.life && is_hot_updated head
    && (head.ctid.block == block) && (head.ctid.item == j) && not (j == i)
steps block i Unused j to = false
steps block i Dead j to = false

-- what an item must be to step at all
abbrev pub may_step : ItemState → Bool
may_step (Redirect target) = true
may_step (Tuple head judged) = is_dead judged.life && is_hot_updated head
may_step Unused = false
may_step Dead = false

-- on a page of this block item i steps to item j
abbrev pub Steps : ℕ → List ItemState → ℕ → ℕ → Type 0
Steps block items i j = steps block i (item_at items i) j (item_at items j) ≡ true

-- item i comes from item r by k steps
abbrev pub Comes : ℕ → List ItemState → ℕ → ℕ → ℕ → Type 0
Comes block items r zero i = r ≡ i
Comes block items r (suc k) i = (m : ℕ) × (Comes block items r k m × Steps block items m i)

abbrev pub IsRoot : List ItemState → ℕ → Type 0
IsRoot items r = is_root (item_at items r) ≡ true

-- r is a root, and i is r or comes from it by some steps
abbrev pub Reaches : ℕ → List ItemState → ℕ → ℕ → Type 0
Reaches block items r i = IsRoot items r × ((k : ℕ) × Comes block items r k i)

-- the lowest root that reaches an item, or None where none does
abbrev pub IsRootOf : ℕ → List ItemState → ℕ → Option ℕ → Type 0
IsRootOf block items i None = (r : ℕ) → Reaches block items r i → ⊥
IsRootOf block items i (Some r) = Reaches block items r i × ((q : ℕ) → Reaches block items q i → r ≤ q)

-- The same as functions

-- the one item that this one names, to which it may step
abbrev pub pointer : ItemState → ℕ
pointer (Redirect target) = target
pointer (Tuple head judged) = head.ctid.item
pointer Unused = 0
pointer Dead = 0

-- the item to which item i steps, 0 where it doesn't step
unfoldable pub step_of : ℕ → List ItemState → ℕ → ℕ
step_of block items i =
    let j = pointer (item_at items i) in if steps block i (item_at items i) j (item_at items j) then j else 0

unfoldable pub is_root_at : List ItemState → ℕ → Bool
is_root_at items r = is_root (item_at items r)

-- the item that comes from r by k steps, 0 where there are fewer
unfoldable pub after : (ℕ → ℕ) → ℕ → ℕ → ℕ
after step r zero = r
after step r (suc k) = step (after step r k)

-- i is r or comes from r by at most n steps
unfoldable pub comes_within : (ℕ → ℕ) → ℕ → ℕ → ℕ → Bool
comes_within step r zero i = r == i
comes_within step r (suc n) i = comes_within step r n i || (after step r (suc n) == i)

-- a number that was found before, or else this one if it is good
abbrev pub found_first : ℕ → Bool → ℕ → ℕ
found_first before good here = if before == 0 then (if good then here else 0) else before

-- the least of the roots 1, .., n from which i comes by at most `most` steps, 0 where there is none
unfoldable pub lowest_root : (ℕ → ℕ) → (ℕ → Bool) → ℕ → ℕ → ℕ → ℕ
lowest_root step roots most i zero = 0
lowest_root step roots most i (suc n) =
    found_first (lowest_root step roots most i n) (roots (suc n) && comes_within step (suc n) most i) (suc n)

-- the lowest-numbered root that reaches item i, 0 where there is none. As many steps as the page has items suffice
unfoldable pub root_number : ℕ → List ItemState → ℕ → ℕ
root_number block items i = lowest_root (step_of block items) (is_root_at items) (length items) i (length items)

unfoldable pub root_of : ℕ → List ItemState → ℕ → Option ℕ
root_of block items i = if root_number block items i == 0 then None else Some (root_number block items i)

-- The rules

-- a redirect's target isn't a normal heap-only tuple
abbrev pub points_astray : List ItemState → ItemState → Bool
points_astray items (Redirect target) = not (is_heap_only_tuple (item_at items target))
points_astray items Unused = false
points_astray items Dead = false
points_astray items (Tuple head judged) = false

-- H3: it is a redirect, and its target isn't a normal heap-only tuple
abbrev pub is_astray : List ItemState → ℕ → Bool
is_astray items i = points_astray items (item_at items i)

-- H14: it is a tuple, and steps to one that isn't heap-only
abbrev pub steps_to_indexed : ℕ → List ItemState → ℕ → Bool
steps_to_indexed block items i =
    is_tuple (item_at items i) && not (step_of block items i == 0)
    && not (is_heap_only_tuple (item_at items (step_of block items i)))

-- one of the items 1, .., n steps to item j
unfoldable pub is_stepped_to : ℕ → List ItemState → ℕ → ℕ → Bool
is_stepped_to block items zero j = false
is_stepped_to block items (suc n) j = is_stepped_to block items n j || (step_of block items (suc n) == j)

-- H15: it steps to an item that a lower item steps to
abbrev pub shares_step : ℕ → List ItemState → ℕ → Bool
shares_step block items i =
    not (step_of block items i == 0) && is_stepped_to block items (i - 1) (step_of block items i)

-- H16: it is a live heap-only tuple that no root reaches
abbrev pub is_lost : ℕ → List ItemState → ℕ → Bool
is_lost block items i =
    is_live_tuple (item_at items i) && is_heap_only_tuple (item_at items i) && (root_number block items i == 0)

-- this rule is one of these four, and item i breaks it
abbrev pub breaks_chain_rule : ℕ → List ItemState → ℕ → Rule → Bool
breaks_chain_rule block items i H3 = is_astray items i
breaks_chain_rule block items i H14 = steps_to_indexed block items i
breaks_chain_rule block items i H15 = shares_step block items i
breaks_chain_rule block items i H16 = is_lost block items i
breaks_chain_rule block items i _ = false

-- the rules in the order in which they are asked
abbrev pub chain_rules : List Rule
chain_rules = H3 ∷ H14 ∷ H15 ∷ H16 ∷ []

-- the first of them that item i breaks
unfoldable pub chain_rule : ℕ → List ItemState → ℕ → Option Rule
chain_rule block items i = find (breaks_chain_rule block items i) chain_rules
