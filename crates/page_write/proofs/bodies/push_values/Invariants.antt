use Rattle.std.proofs.Common.{◌≡◌, map, take}
use Rattle.key_orders.specs.Values.{value_shown}
use Rattle.page_write.specs.Bodies.{with_values}
use Rattle.page_write.proofs.bodies.push_values.Given as goal

abbrev pub invariant-loop-k : goal.invariant-loop-k
invariant-loop-k l = l.out.items ≡ with_values (take l.k l.types) (take l.k (map value_shown l.values)) l.initial.out.items
