use Rattle.std.proofs.Common.{◌≡◌, drop, map}
use Rattle.key_orders.specs.Values.{value_shown}
use Rattle.page_write.specs.Bodies.{has_varwidth}
use Rattle.page_write.proofs.bodies.has_varwidth.Given as goal

abbrev pub invariant-loop-k : goal.invariant-loop-k
invariant-loop-k l = has_varwidth (drop l.k l.types) (drop l.k (map value_shown l.values)) ≡ has_varwidth l.types (map value_shown l.values)
