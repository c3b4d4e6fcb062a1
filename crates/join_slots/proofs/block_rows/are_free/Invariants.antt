use Rattle.join_slots.specs.BlockRows.{AreFree}
use Rattle.join_slots.proofs.block_rows.are_free.Given as goal

abbrev pub invariant-loop-i : goal.invariant-loop-i
invariant-loop-i l = AreFree l.records l.slot l.i
