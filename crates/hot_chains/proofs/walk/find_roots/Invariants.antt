use Rattle.std.proofs.Common.{◌+◌}
use Rattle.hot_chains.specs.Table.{AreMarked}
use Rattle.hot_chains.proofs.walk.find_roots.Given as goal

abbrev pub invariant-loop-k : goal.invariant-loop-k
invariant-loop-k l = AreMarked l.places l.roots (l.k + 1)
