use Rattle.std.proofs.Common.{◌≡◌, length, IsUtf8}
use Rattle.cmd_line.specs.Bounds.{are_values}
use Rattle.cmd_line.proofs.bounds.are_values.Given as goal

abbrev pub invariant-parts : goal.invariant-parts
invariant-parts l = (are_values l.fn.word ≡ are_values l.rest) × IsUtf8 l.rest

abbrev pub decreases-parts : goal.decreases-parts
decreases-parts l = length l.rest
