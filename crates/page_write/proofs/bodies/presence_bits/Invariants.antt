use Rattle.std.proofs.Common.{◌≡◌, ◌^◌, ◌<◌, map, take}
use Rattle.key_orders.specs.Values.{value_shown}
use Rattle.page_write.specs.Bodies.{presence_bits}
use Rattle.page_write.proofs.bodies.presence_bits.Given as goal

abbrev pub invariant-loop-value : goal.invariant-loop-value
invariant-loop-value l =
    (l.bits ≡ presence_bits (take l.value-index (map value_shown l.values))) × (l.bit ≡ 2 ^ l.value-index) × (l.bits < 2 ^ l.value-index)
