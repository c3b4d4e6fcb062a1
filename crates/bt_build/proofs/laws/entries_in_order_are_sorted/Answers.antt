use Rattle.bt_build.proofs.InsertLaws.{order_moves, order_rising, order_sorted}
use Rattle.bt_build.proofs.laws.entries_in_order_are_sorted.Goals as goal

pub returns : goal.returns
returns c =
    let total = c.key_orders_are_total.ensures in
    let order = c.keys_are_searchable.ensures.order in
    record {
      moved = order_moves;
      sorted = λ specs es. order_sorted specs (order specs) es;
      rising = λ specs es apart. order_rising total.keys total.same_key specs (order specs) es apart;
    }
