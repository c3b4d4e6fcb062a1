use Rattle.std.proofs.Common.{◌≡◌, ◌-◌, length}
use Rattle.laws_search.specs.Keys.{compare_values}
use Rattle.key_orders.specs.Keys.{columns_of}
use Rattle.key_storage.specs.Stored.{values_read}
use Rattle.bt_build.proofs.order.compare_stored.Given as goal

-- the columns so far are equal
abbrev pub invariant-loop-i : goal.invariant-loop-i
invariant-loop-i l =
    compare_values (columns_of l.specs) l.i (values_read (length l.specs - l.i) l.left) (values_read (length l.specs - l.i) l.right)
    ≡ compare_values (columns_of l.specs) 0 (values_read (length l.specs) l.a) (values_read (length l.specs) l.b)
