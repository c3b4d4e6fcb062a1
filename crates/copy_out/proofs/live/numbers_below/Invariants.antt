use Rattle.std.proofs.Common.{◌≡◌}
use Rattle.copy_out.specs.Live.{numbers_from}
use Rattle.copy_out.proofs.live.numbers_below.Given as goal

abbrev pub invariant-loop-k : goal.invariant-loop-k
invariant-loop-k l = l.numbers.items ≡ numbers_from 0 l.k
