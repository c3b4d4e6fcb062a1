use Rattle.std.proofs.Common.{ℕ, ◌+◌, false, List, subst, sym}
use Rattle.hot_chains.specs.Table.{AreMarked}
use Rattle.hot_chains.proofs.Marking.{marked_skip}
use Rattle.hot_chains.proofs.Places.{begins_next}
use Rattle.hot_chains.proofs.walk.find_roots.Goals as goal
use Rattle.hot_chains.proofs.walk.find_roots.Goals.{then-places-k, else-places-k}

pub loop-k-preserved : goal.loop-k-preserved
loop-k-preserved c =
    let P : List ℕ → Type 0 = λ m. AreMarked c.args.places.now m (c.loop-k.k + 1 + 1) in
    elim c.if-places-k.branch [
      | then-places-k w ↦ subst P (sym w.roots-is) w.mark_from.ensures
      | else-places-k w ↦ subst P (sym w.roots-is) (marked_skip _ _ _ _ _ c.loop-k.invariant (begins_next c.args.places.now c.loop-k.k false w.if-places-k.false))
    ]
