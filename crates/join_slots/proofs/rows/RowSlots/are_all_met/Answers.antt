use Rattle.std.proofs.Common.{List, ℕ, length, subst}
use Rattle.std.proofs.lemmas.Bool.{OnTrue_at, OnTrue_from}
use Rattle.join_slots.specs.Slots.{AreAllMet, AreAllSet}
use Rattle.join_slots.proofs.WholeLaws.{all_met}
use Rattle.join_slots.proofs.rows.RowSlots.are_all_met.Goals as goal

pub returns : goal.returns
returns c = OnTrue_from c.are_all_set.result _ (λ e.
    let s = c.self.inside in
    let set : AreAllSet s.records.items s.bits.items (length s.records.items) =
    subst (λ (x : List ℕ × List ℕ). AreAllSet x.0 x.1 (length x.0)) (λ i. (c.deref.ensures.value i, c.deref-2.ensures.value i)) (OnTrue_at e c.are_all_set.ensures) in
    subst AreAllMet c.self.view_is (all_met s.first s.starts.items s.records.items s.arena.items s.bits.items c.self.invariant.0 set))
