use Rattle.std.proofs.Common.{◌≡◌, take}
use Rattle.bt_build.specs.Levels.{sizes_in}
use Rattle.bt_build.proofs.levels.sizes_in.Given as goal

abbrev pub invariant-loop-i : goal.invariant-loop-i
invariant-loop-i l = l.sizes.items ≡ sizes_in (take l.i l.items)
