use Rattle.std.proofs.Common.{◌≡◌, ◌++◌, drop, length}
use Rattle.bt_build.specs.Levels.{ArePages, at_firsts}
use Rattle.bt_build.proofs.levels.at_firsts.Given as goal

abbrev pub invariant-loop-i : goal.invariant-loop-i
invariant-loop-i l =
    ArePages (drop l.i l.counts) (length l.left)
    × (l.firsts.items ++ at_firsts (drop l.i l.counts) l.left ≡ at_firsts l.counts l.items)
