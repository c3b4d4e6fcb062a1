use Rattle.join_slots.specs.Slots.{AreAllSet}
use Rattle.join_slots.proofs.rows.are_all_set.Given as goal

abbrev pub invariant-loop-k : goal.invariant-loop-k
invariant-loop-k l = AreAllSet l.numbers l.bits l.k
