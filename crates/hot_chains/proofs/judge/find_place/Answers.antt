use Rattle.std.proofs.Common.{◌≡◌, ℕ, ◌+◌, ◌≤◌, Bool, List, length, sym, subst, ◌∙◌, arith}
use Rattle.liveness.specs.declared.states.ItemState.{ItemState}
use Rattle.hot_chains.specs.Chains.{step_of}
use Rattle.hot_chains.specs.Table.{AreTaken}
use Rattle.hot_chains.proofs.Places.{place_right}
use Rattle.hot_chains.proofs.Stepping.{item_at-next, page_is_graph}
use Rattle.hot_chains.proofs.Taken.{taken_is_shared, taken_next}
use Rattle.hot_chains.proofs.judge.find_place.Goals as goal

-- the step stays on the page
within : (block : ℕ) (items : List ItemState) (i j : ℕ) → j ≡ step_of block items i → j ≤ length items
within block items i j e = let P : ℕ → Type 0 = λ m. m ≤ length items in subst P (sym e) ((page_is_graph block items).within i)

pub step_of-next-requires : goal.step_of-next-requires
step_of-next-requires c = record { item = item_at-next c.args.items.now c.args.k }

pub take-shared-requires : goal.take-shared-requires
take-shared-requires c = let w = within _ _ _ _ c.step_of-next.ensures in let a = c.requires.taken.long in omega (arith, w, a)

pub returns-clause-place : goal.returns-clause-place
returns-clause-place c =
    let shared = c.take-shared.ensures.was ∙ taken_is_shared c.args.block c.args.items.now c.args.taken.now c.args.k c.step_of-next.result c.requires.taken c.step_of-next.ensures (within _ _ _ _ c.step_of-next.ensures) in
    place_right c.args.block c.args.items.now (c.args.k + 1) _ _ c.take-shared.result (item_at-next c.args.items.now c.args.k) c.step_of-next.ensures shared c.is_root.ensures c.needs_root.ensures c.step_rule.ensures

pub returns-clause-taken : goal.returns-clause-taken
returns-clause-taken c =
    let P : List Bool → Type 0 = λ t. AreTaken c.args.block c.args.items.now t (c.args.k + 1) in
    subst P (sym c.take-shared.ensures.now) (taken_next c.args.block c.args.items.now c.args.taken.now c.args.k c.step_of-next.result c.requires.taken c.step_of-next.ensures (within _ _ _ _ c.step_of-next.ensures))
