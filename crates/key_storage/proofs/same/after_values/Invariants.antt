use Rattle.std.proofs.Common.{◌≡◌, ◌-◌, drop, length, map}
use Rattle.key_orders.specs.Values.{value_shown}
use Rattle.key_storage.specs.Same.{same_key}
use Rattle.key_storage.specs.Stored.{values_left, values_read}
use Rattle.key_storage.proofs.same.after_values.Given as goal

-- the values so far are the same, so the others decide
abbrev pub invariant-loop-i : goal.invariant-loop-i
invariant-loop-i l = record {
  test : same_key (values_read (length l.values - l.i) l.left) (map value_shown (drop l.i l.values)) ≡ same_key (values_read (length l.values) l.bytes) (map value_shown l.values);
  rest : values_left (length l.values - l.i) l.left ≡ values_left (length l.values) l.bytes;
}
