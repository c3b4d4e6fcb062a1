use Rattle.std.proofs.Common.{◌≡◌, ◌≤◌, drop, length}
use Rattle.bt_build.specs.Outcome.{lowest_tid}
use Rattle.bt_build.specs.Places.{large_tids}
use Rattle.bt_build.proofs.source.large_tid.Given as goal

abbrev pub invariant-loop-left : goal.invariant-loop-left
invariant-loop-left l = (l.left ≤ length l.places) × (l.lowest ≡ lowest_tid (large_tids (drop l.left l.places)))

abbrev pub decreases-loop-left : goal.decreases-loop-left
decreases-loop-left l = l.left
