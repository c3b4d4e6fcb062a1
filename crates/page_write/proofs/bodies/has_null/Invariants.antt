use Rattle.std.proofs.Common.{◌≡◌, drop, map}
use Rattle.key_orders.specs.Values.{value_shown}
use Rattle.page_write.specs.Bodies.{has_null}
use Rattle.page_write.proofs.bodies.has_null.Given as goal

abbrev pub invariant-loop-value : goal.invariant-loop-value
invariant-loop-value l =
    has_null (drop l.value-index (map value_shown l.values)) ≡ has_null (map value_shown l.values)
