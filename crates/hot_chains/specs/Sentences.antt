-- The rules of chains, each by its sentence over the relations of steps and reach, and how long chains are.
use Rattle.std.specs.Prelude.{◌≡◌, ℕ, ◌<◌, ◌≤◌, true, false, List, count_by}
use Rattle.page_layout.specs.declared.rules.Rule.{Rule}
use Rattle.page_layout.specs.declared.rules.Rule.TheVariants.{H3, H14, H15, H16}
use Rattle.liveness.specs.declared.states.ItemState.{ItemState}
use Rattle.liveness.specs.declared.states.ItemState.TheVariants.{Redirect}
use Rattle.hot_chains.specs.Chains.{item_at, is_heap_only_tuple, is_live_tuple, is_tuple, Steps, Comes, Reaches}

-- H3: it is a redirect, and its target isn't a normal heap-only tuple
abbrev pub IsAstray : List ItemState → ℕ → Type 0
IsAstray items i = (t : ℕ) × ((item_at items i ≡ Redirect t) × (is_heap_only_tuple (item_at items t) ≡ false))

-- H14: it is a tuple, and steps to one that isn't heap-only
abbrev pub StepsToIndexed : ℕ → List ItemState → ℕ → Type 0
StepsToIndexed block items i =
    (is_tuple (item_at items i) ≡ true)
    × ((j : ℕ) × (Steps block items i j × (is_heap_only_tuple (item_at items j) ≡ false)))

-- H15: it steps to an item that a lower item steps to
abbrev pub SharesStep : ℕ → List ItemState → ℕ → Type 0
SharesStep block items i = (j : ℕ) × ((k : ℕ) × ((k < i) × (Steps block items i j × Steps block items k j)))

-- H16: it is a live heap-only tuple that no root reaches
abbrev pub IsLost : ℕ → List ItemState → ℕ → Type 0
IsLost block items i =
    (is_live_tuple (item_at items i) ≡ true)
    × ((is_heap_only_tuple (item_at items i) ≡ true) × ((r : ℕ) → Reaches block items r i → ⊥))

-- item i breaks this rule
abbrev pub IsChainRuleBroken : ℕ → List ItemState → ℕ → Rule → Type 0
IsChainRuleBroken block items i H3 = IsAstray items i
IsChainRuleBroken block items i H14 = StepsToIndexed block items i
IsChainRuleBroken block items i H15 = SharesStep block items i
IsChainRuleBroken block items i H16 = IsLost block items i
IsChainRuleBroken block items i _ = ⊥

-- i is r, or comes from it by no more steps than the page has tuples
abbrev pub ComesSoon : ℕ → List ItemState → ℕ → ℕ → Type 0
ComesSoon block items r i = (k : ℕ) × ((k ≤ count_by is_tuple items) × Comes block items r k i)
