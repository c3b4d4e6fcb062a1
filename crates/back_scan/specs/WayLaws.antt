-- What a scan reaches beyond, it reaches beyond all that is below it. The law of `Way` names this proof, so it stands
-- here: a law can't name what stands in proofs/.
use Rattle.std.specs.Prelude.{ℕ, zero, suc, [], ◌∷◌, List}
use Rattle.std.specs.Cmp.{IsTotalOrder}
use Rattle.laws_back_search.proofs.Reach.{reaches_of_lower}
use Rattle.key_orders.specs.declared.columns.KeySpec.{KeySpec}
use Rattle.key_orders.specs.Keys.{columns_of, tid_order}
use Rattle.key_orders.specs.OrderLaws.{directed_total, value_order_total, with_nulls_total}
use Rattle.key_orders.specs.Orders.{directed, value_order}
use Rattle.key_orders.specs.Scans.{Bounds}
use Rattle.bt_steps.specs.Ways.{GoesLower}
use Rattle.back_scan.specs.Descents.{reach_goes}

columns_total : (specs : List KeySpec) (i : ℕ) → IsTotalOrder (columns_of specs i)
columns_total [] i = value_order_total
columns_total (k ∷ ks) zero =
    with_nulls_total k.nulls_first (directed k.desc value_order)
    (directed_total k.desc value_order value_order_total)
columns_total (k ∷ ks) (suc i) = columns_total ks i

pub reach_lower : (specs : List KeySpec) (bounds : Bounds) → GoesLower specs (reach_goes specs bounds)
reach_lower specs bounds = record {
  lower = λ s t is it below reaches.
      reaches_of_lower (columns_of specs) (columns_total specs) tid_order bounds.high s t below reaches;
}
