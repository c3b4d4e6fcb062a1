use Rattle.std.proofs.Common.{◌≡◌, take}
use Rattle.bt_build.specs.Levels.{firsts_in}
use Rattle.bt_build.proofs.levels.firsts_in.Given as goal

abbrev pub invariant-loop-i : goal.invariant-loop-i
invariant-loop-i l = l.firsts.items ≡ firsts_in (take l.i l.items)
