use Rattle.std.proofs.Common.{◌≡◌, ◌-◌, ◌++◌, map}
use Rattle.key_orders.specs.Values.{value_shown}
use Rattle.key_storage.specs.Stored.{values_read}
use Rattle.bt_build.proofs.bodies.read_values.Given as goal

abbrev pub invariant-loop : goal.invariant-loop
invariant-loop l = map value_shown l.values.items ++ values_read (l.count - l.counter) l.left ≡ values_read l.count l.bytes
