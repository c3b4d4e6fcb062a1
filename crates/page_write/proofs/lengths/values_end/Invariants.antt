use Rattle.std.proofs.Common.{◌≡◌, ◌≤◌, ◌+◌, ◌*◌, ℕ, List, length, map, take}
use Rattle.key_orders.specs.Values.{value_shown}
use Rattle.page_write.specs.Bodies.{with_values}
use Rattle.page_write.proofs.lengths.values_end.Given as goal

abbrev pub invariant-loop-k : goal.invariant-loop-k
invariant-loop-k l =
    ((body : List ℕ) → length body ≡ l.place → length (with_values (take l.k l.types) (take l.k (map value_shown l.values)) body) ≡ l.end)
    × (l.end ≤ l.place + l.k * 1100000000)
