use Rattle.std.proofs.Common.{take}
use Rattle.copy_out.specs.Readings.{Lacks}
use Rattle.copy_out.proofs.read_lines.cut_at.Given as goal

abbrev pub invariant-loop-i : goal.invariant-loop-i
invariant-loop-i l = Lacks l.byte (take l.i l.bytes)
