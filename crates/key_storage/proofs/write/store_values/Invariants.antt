use Rattle.std.proofs.Common.{◌≡◌, ◌++◌, take}
use Rattle.std.specs.Prelude.{All}
use Rattle.std.specs.List.{flat_map}
use Rattle.key_orders.specs.Values.{value_shown}
use Rattle.key_storage.specs.Stored.{shown_bytes, IsStorable}
use Rattle.key_storage.proofs.write.store_values.Given as goal

-- the values so far are added
abbrev pub invariant-loop-i : goal.invariant-loop-i
invariant-loop-i l =
    record {
      items : l.arena.items ≡ l.fn.arena.items ++ flat_map shown_bytes (take l.i l.values);
      storable : All (λ v. IsStorable (value_shown v)) (take l.i l.values);
    }
