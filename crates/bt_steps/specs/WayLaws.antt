-- What a way goes right of, it goes right of all below it. The law of `Way` names these proofs for each kind of way, so
-- they stand here: a law can't name what stands in proofs/.
use Rattle.std.specs.Prelude.{ℕ, zero, suc, List, [], ◌∷◌, length}
use Rattle.std.proofs.Common.{inl, inr, ap}
use Rattle.std.specs.Cmp.{IsTotalOrder, nat_cmp_total, on_total, then_total}
use Rattle.std.specs.Ordering.{is_lt}
use Rattle.std.specs.declared.cmp.Ordering.{Ordering}
use Rattle.std.proofs.lemmas.Bool.{both_ways, cases_Bool, not_from_false, not-true}
use Rattle.laws_search.specs.Keys.{Separator, as_separator, compare_keys, goes_right}
use Rattle.laws_search.specs.Order.{IsOrder}
use Rattle.laws_search.proofs.Keys.{key_order_laws, keys_total, lt_less, right_of_lower}
use Rattle.key_orders.specs.declared.columns.KeySpec.{KeySpec}
use Rattle.key_orders.specs.declared.columns.Value.{Value}
use Rattle.key_orders.specs.declared.Tid.{Tid}
use Rattle.key_orders.specs.Keys.{columns_of, entry_of, tid_order}
use Rattle.key_orders.specs.OrderLaws.{directed_total, value_order_total, with_nulls_total}
use Rattle.key_orders.specs.Orders.{directed, value_order}
use Rattle.key_orders.specs.Scans.{Bounds, order_of}
use Rattle.bt_steps.specs.Sought.{is_below, is_within}
use Rattle.bt_steps.specs.Ways.{GoesLower}

-- The order of each column

columns_total : (specs : List KeySpec) (i : ℕ) → IsTotalOrder (columns_of specs i)
columns_total [] i = value_order_total
columns_total (k ∷ ks) zero =
    with_nulls_total k.nulls_first (directed k.desc value_order)
    (directed_total k.desc value_order value_order_total)
columns_total (k ∷ ks) (suc i) = columns_total ks i

pub tids_total : IsTotalOrder tid_order
tids_total = then_total (on_total (λ (t : Tid). t.block) nat_cmp_total) (on_total (λ (t : Tid). t.item) nat_cmp_total)

-- What the ways go right of

abbrev keys : List KeySpec → Separator Value Tid → Separator Value Tid → Ordering
keys specs = compare_keys (columns_of specs) tid_order

pub total : (specs : List KeySpec) → IsTotalOrder (keys specs)
total specs = keys_total (columns_of specs) (columns_total specs) tid_order tids_total

pub ordered : (specs : List KeySpec) → IsOrder (order_of specs)
ordered specs = key_order_laws (columns_of specs) (columns_total specs) tid_order tids_total

pub scan_lower : (specs : List KeySpec) (bounds : Bounds)
    → GoesLower specs (λ s. goes_right (columns_of specs) bounds.low s)
scan_lower specs bounds = record {
  lower = λ s t is it below right.
      right_of_lower (columns_of specs) (columns_total specs) tid_order tids_total (length specs) bounds.low s t is it
      below right;
}

pub sought_lower : (specs : List KeySpec) (key : List Value) (tid : Tid) → GoesLower specs (is_below specs key tid)
sought_lower specs key tid = record {
  lower = λ s t is it below right. elim (cases_Bool ((order_of specs).within (entry_of key tid) s)) [
    | inl at ↦
        let up = (ordered specs).higher (entry_of key tid) s t at below in
        absurd (both_ways ((order_of specs).within (entry_of key tid) t) (not-true _ right) up)
    | inr past ↦ not_from_false _ past
  ];
}

pub within_lower : (specs : List KeySpec) (key : List Value) (tid : Tid) → GoesLower specs (is_within specs key tid)
within_lower specs key tid = record {
  lower = λ s t is it below right. elim (cases_Bool (is_lt (keys specs (as_separator (entry_of key tid)) s))) [
    | inl under ↦
        let e = as_separator (entry_of key tid) in
        let up = ap is_lt ((total specs).trans e s t (lt_less _ under) (lt_less _ below)) in
        absurd (both_ways (is_lt (keys specs e t)) (not-true _ right) up)
    | inr at ↦ not_from_false _ at
  ];
}
