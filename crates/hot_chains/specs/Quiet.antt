-- A page that breaks no chain rule, and a page that has no chain.
use Rattle.std.specs.Prelude.{◌≡◌, ℕ, ◌≤◌, true, false, List, length, None, All}
use Rattle.liveness.specs.declared.states.ItemState.{ItemState}
use Rattle.hot_chains.specs.Chains.{item_at, is_live_tuple, chain_rule, Reaches, may_step, is_heap_only_tuple}

-- no item breaks a chain rule
abbrev pub KeepsChainRules : ℕ → List ItemState → Type 0
KeepsChainRules block items = (i : ℕ) → 1 ≤ i → i ≤ length items → chain_rule block items i ≡ None

abbrev pub IsLiveItem : List ItemState → ℕ → Type 0
IsLiveItem items i = is_live_tuple (item_at items i) ≡ true

-- exactly one root reaches the item
pub record HasOneRoot (block : ℕ) (items : List ItemState) (i : ℕ) : Type 0 where
  pub root : ℕ
  pub reaches : Reaches block items root i
  pub only : (q : ℕ) → Reaches block items q i → q ≡ root

-- the item may not step, and isn't a heap-only tuple
abbrev pub IsUnchained : ItemState → Type 0
IsUnchained item = (may_step item ≡ false) × (is_heap_only_tuple item ≡ false)

-- no item may step, and no tuple is heap-only
abbrev pub HasNoChains : List ItemState → Type 0
HasNoChains items = All IsUnchained items
