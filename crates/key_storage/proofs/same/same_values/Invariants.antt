use Rattle.std.proofs.Common.{◌≡◌, length, drop, map}
use Rattle.key_orders.specs.Values.{value_shown}
use Rattle.key_storage.specs.Same.{same_key}
use Rattle.key_storage.proofs.same.same_values.Given as goal

abbrev pub invariant-loop-i : goal.invariant-loop-i
invariant-loop-i l =
    record {
      alike : length l.a ≡ length l.b;
      rest : same_key (map value_shown (drop l.i l.a)) (map value_shown (drop l.i l.b)) ≡ same_key (map value_shown l.a) (map value_shown l.b);
    }
