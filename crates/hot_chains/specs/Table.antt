-- What the table of a page's chains says.
use Rattle.std.specs.Prelude.{◌≡◌, ℕ, ◌+◌, ◌-◌, ◌<◌, ◌≤◌, Bool, true, false, not, ◌==◌, ◌&&◌, if◌then◌else◌}
use Rattle.std.specs.Prelude.{List, [], ◌∷◌, length, get_or, replicate, Option, Some, None, find}
use Rattle.page_layout.specs.declared.rules.Rule.{Rule}
use Rattle.page_layout.specs.declared.rules.Rule.TheVariants.{H3, H14, H15, H16}
use Rattle.tuple_head.specs.declared.HeapHead.{HeapHead}
use Rattle.tuple_head.specs.Head.{is_hot_updated}
use Rattle.liveness.specs.declared.states.ItemState.{ItemState}
use Rattle.liveness.specs.declared.states.ItemState.TheVariants.{Unused, Dead, Redirect, Tuple}
use Rattle.liveness.specs.declared.states.Judged.{Judged}
use Rattle.hot_chains.specs.declared.table.Chains.{Chains}
use Rattle.hot_chains.specs.declared.place.Place.{Place}
use Rattle.hot_chains.specs.Chains.{breaks_chain_rule, chain_rule, is_dead, is_heap_only_tuple, is_live_tuple}
use Rattle.hot_chains.specs.Chains.{is_root_at, is_tuple, is_stepped_to, item_at, root_of, step_of}
use Rattle.hot_chains.specs.Marks.{Marked, mark}

abbrev pub nowhere : Place
nowhere = record { next = 0; is_root = false; needs_root = false; rule = None }

-- the place of item k + 1
abbrev pub place_or : List Place → ℕ → Place
place_or places k = get_or places k nowhere

-- how many items the table has
unfoldable pub count_in : Chains → ℕ
count_in chains = length chains.places.items

-- the first rule that an item breaks, by its place and by the number of its root, which is 0 where there is none
abbrev pub rule_at : Place → ℕ → Option Rule → Option Rule
rule_at place root (Some rule) = Some rule
rule_at place root None = if place.needs_root && (root == 0) then Some H16 else None

-- what the table says of item i
unfoldable pub rule_in : Chains → ℕ → Option Rule
rule_in chains i =
    let place = place_or chains.places.items (i - 1) in rule_at place (mark chains.roots.items i) place.rule

unfoldable pub root_in : Chains → ℕ → Option ℕ
root_in chains i = let root = mark chains.roots.items i in if root == 0 then None else Some root

-- the table is that of the page
pub record AreChains (block : ℕ) (items : List ItemState) (chains : Chains) : Type 0 where
  pub count : count_in chains ≡ length items
  pub rules : (i : ℕ) → 1 ≤ i → i ≤ length items → rule_in chains i ≡ chain_rule block items i
  pub roots : (i : ℕ) → 1 ≤ i → i ≤ length items → root_in chains i ≡ root_of block items i

-- The parts of the table as they are filled

-- there is room for so many items, and nothing is said of them
pub record IsBlank (chains : Chains) (count : ℕ) : Type 0 where
  pub roots : chains.roots.items ≡ replicate (count + 1) 0
  pub taken : chains.taken.items ≡ replicate (count + 1) false
  pub places : length chains.places.items ≡ count

abbrev pub is_redirect : ItemState → Bool
is_redirect (Redirect target) = true
is_redirect Unused = false
is_redirect Dead = false
is_redirect (Tuple head judged) = false

-- item i, a tuple on a page of this block, is dead and was updated to another item of the page
abbrev pub leads_on : ℕ → ℕ → HeapHead → Judged → Bool
leads_on block i head judged =
    is_dead judged.life && is_hot_updated head && not (judged.update == 0) && (head.ctid.block == block)
    && not (head.ctid.item == i)

-- the rules of chains that an item breaks by its own step
abbrev pub step_rules : List Rule
step_rules = H3 ∷ H14 ∷ H15 ∷ []

-- the first of them that item i breaks
unfoldable pub step_rule : ℕ → List ItemState → ℕ → Option Rule
step_rule block items i = find (breaks_chain_rule block items i) step_rules

-- the same by an item's state, by where it steps, and by whether a lower item steps there
abbrev pub rule_by : List ItemState → ItemState → ℕ → Bool → Option Rule
rule_by items item next shared =
    if is_redirect item && (next == 0) then Some H3
    else if is_tuple item && not (next == 0) && not (is_heap_only_tuple (item_at items next)) then Some H14
    else if shared then Some H15
    else None

-- for each item, whether one of the items 1, .., k steps to it
pub record AreTaken (block : ℕ) (items : List ItemState) (taken : List Bool) (k : ℕ) : Type 0 where
  pub long : length taken ≡ length items + 1
  pub right : (j : ℕ) → 1 ≤ j → j ≤ length items → get_or taken j false ≡ is_stepped_to block items k j

-- what is known of item i by itself
pub record IsPlace (block : ℕ) (items : List ItemState) (i : ℕ) (place : Place) : Type 0 where
  pub next : place.next ≡ step_of block items i
  pub begins : place.is_root ≡ is_root_at items i
  pub needs : place.needs_root ≡ (is_live_tuple (item_at items i) && is_heap_only_tuple (item_at items i))
  pub breaks : place.rule ≡ step_rule block items i

-- the places of the items 1, .., k are right
pub record ArePlaces (block : ℕ) (items : List ItemState) (places : List Place) (k : ℕ) : Type 0 where
  pub long : length places ≡ length items
  pub right : (i : ℕ) → i < k → IsPlace block items (i + 1) (place_or places i)

-- the steps and the roots that the places tell of
abbrev pub next_in : List Place → ℕ → ℕ
next_in places i = if i == 0 then 0 else (place_or places (i - 1)).next

abbrev pub begins_in : List Place → ℕ → Bool
begins_in places i = if i == 0 then false else (place_or places (i - 1)).is_root

-- the roots below r have marked what they reach
abbrev pub AreMarked : List Place → List ℕ → ℕ → Type 0
AreMarked places marks r = Marked (next_in places) (begins_in places) (length places) marks r
