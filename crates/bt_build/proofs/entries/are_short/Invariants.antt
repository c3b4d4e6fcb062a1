use Rattle.std.proofs.Common.{take}
use Rattle.std.specs.Prelude.{All}
use Rattle.key_orders.specs.Values.{value_shown}
use Rattle.page_write.specs.Bodies.{IsShortEnough}
use Rattle.bt_build.proofs.entries.are_short.Given as goal

abbrev pub invariant-loop-i : goal.invariant-loop-i
invariant-loop-i l = All (λ v. IsShortEnough (value_shown v)) (take l.i l.values)
