-- The orders of an index's columns and of TIDs are total, and values that compare equal are the same.
use Rattle.std.proofs.Common.{◌≡◌, ℕ, zero, suc, List, [], ◌∷◌, ap, Ordering, Equal}
use Rattle.std.specs.Prelude.{Some, None, ◌↔◌}
use Rattle.std.specs.Cmp.{IsTotalOrder, on_total}
use Rattle.std.specs.Ordering.{ordering_then}
use Rattle.laws_search.specs.Keys.{Separator, compare_keys, compare_values}
use Rattle.laws_search.specs.Order.{IsOrder}
use Rattle.key_orders.specs.declared.columns.KeySpec.{KeySpec}
use Rattle.key_orders.specs.declared.columns.Value.{Value}
use Rattle.key_orders.specs.declared.Tid.{Tid}
use Rattle.key_orders.specs.Keys.{columns_of, tid_order}
use Rattle.key_orders.specs.OrderLaws.{value_order_total}
use Rattle.key_orders.specs.Orders.{column_order}
use Rattle.key_orders.specs.Scans.{order_of}
use Rattle.laws_building.specs.Fresh.{IsKeyOrder}
use Rattle.laws_building.proofs.Splits.{key_order_is}

-- what key_orders_are_total and keys_are_searchable say
pub record HaveOrders : Type 0 where
  pub column : (k : KeySpec) → IsTotalOrder (column_order k)
  pub keys : (specs : List KeySpec) → IsTotalOrder (compare_keys (columns_of specs) tid_order)
  pub order : (specs : List KeySpec) → IsOrder (order_of specs)
  pub same_key : (specs : List KeySpec) (s t : Separator Value Tid) → (compare_keys (columns_of specs) tid_order s t ≡ Equal) ↔ (s ≡ t)

pub columns_total : HaveOrders → (specs : List KeySpec) (i : ℕ) → IsTotalOrder (columns_of specs i)
columns_total laws [] i = value_order_total
columns_total laws (k ∷ ks) zero = laws.column k
columns_total laws (k ∷ ks) (suc i) = columns_total laws ks i

pub keyed : HaveOrders → (specs : List KeySpec) → IsKeyOrder (order_of specs)
keyed laws specs = key_order_is (columns_of specs) (columns_total laws specs) tid_order (laws.keys specs) (laws.order specs)

-- a key without values is its TID
abbrev lone_tid : Tid → Separator Value Tid
lone_tid t = record { kept = []; tid = Some t }

pub tids_total : HaveOrders → IsTotalOrder tid_order
tids_total laws = on_total lone_tid (laws.keys [])

abbrev lone_values : List Value → Separator Value Tid
lone_values values = record { kept = values; tid = None }

pub same_values : HaveOrders → (specs : List KeySpec) (xs ys : List Value) → compare_values (columns_of specs) 0 xs ys ≡ Equal → xs ≡ ys
same_values laws specs xs ys e =
    ap (λ (s : Separator Value Tid). s.kept) ((laws.same_key specs (lone_values xs) (lone_values ys)).0 (ap (λ (o : Ordering). ordering_then o Equal) e))
