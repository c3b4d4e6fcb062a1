use Rattle.std.proofs.Common.{length}
use Rattle.hot_chains.specs.Marks.{Walking, blanks}
use Rattle.hot_chains.specs.Table.{begins_in, next_in}
use Rattle.hot_chains.proofs.walk.mark_from.Given as goal

abbrev pub invariant-loop-here : goal.invariant-loop-here
invariant-loop-here l = Walking (next_in l.places) (begins_in l.places) (length l.places) l.roots l.r l.here

abbrev pub decreases-loop-here : goal.decreases-loop-here
decreases-loop-here l = blanks l.roots
