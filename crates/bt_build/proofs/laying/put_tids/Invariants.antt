use Rattle.std.proofs.Common.{◌≡◌, map, take}
use Rattle.bt_build.specs.Places.{tid_of}
use Rattle.bt_build.proofs.laying.put_tids.Given as goal

abbrev pub invariant-loop-i : goal.invariant-loop-i
invariant-loop-i l = l.tids.items ≡ map tid_of (take l.i l.places)
