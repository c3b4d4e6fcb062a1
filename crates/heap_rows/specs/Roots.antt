-- What is known of the roots of a page's items.
use Rattle.std.specs.Prelude.{ℕ, Bool, true, false, List, unwrap_or}
use Rattle.liveness.specs.declared.states.ItemState.{ItemState}
use Rattle.hot_chains.specs.Chains.{root_of}
use Rattle.hot_chains.specs.Quiet.{HasNoChains}
use Rattle.hot_chains.specs.Table.{AreChains}
use Rattle.hot_chains.specs.declared.table.Chains.{Chains}
use Rattle.heap_rows.specs.declared.roots.Roots.{Roots}

-- the lowest root from which the item is found. In a heap without findings each live tuple has one
abbrev pub root_item : ℕ → List ItemState → ℕ → ℕ
root_item block states i = unwrap_or (root_of block states i) i

-- the chains of the page are in its table, where it has some
abbrev pub AreChainsWhere : (has_chains : Bool) → ℕ → List ItemState → Chains → Type 0
AreChainsWhere true block items chains = AreChains block items chains
AreChainsWhere false block items chains = HasNoChains items

abbrev pub AreRoots : ℕ → List ItemState → Roots → Type 0
AreRoots block items roots = AreChainsWhere roots.has_chains block items roots.chains
