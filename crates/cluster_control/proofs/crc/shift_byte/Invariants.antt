use Rattle.cluster_control.specs.Crc.{Shifts}
use Rattle.cluster_control.proofs.crc.shift_byte.Given as goal

abbrev pub invariant-loop-done : goal.invariant-loop-done
invariant-loop-done l = Shifts l._done l.fn.register l.shifted
