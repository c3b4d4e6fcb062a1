use Rattle.std.proofs.Common.{◌≡◌, ◌++◌, length, IsUtf8}
use Rattle.cmd_line.specs.Bounds.{values_in}
use Rattle.cmd_line.proofs.bounds.values_of.Given as goal

abbrev pub invariant-parts : goal.invariant-parts
invariant-parts l = (values_in l.fn.word ≡ l.values.items ++ values_in l.rest) × IsUtf8 l.rest

abbrev pub decreases-parts : goal.decreases-parts
decreases-parts l = length l.rest
