use Rattle.key_orders.specs.Keys.{tid_order, columns_of}
use Rattle.key_orders.proofs.KeyLaws.{columns_total, tid_order_total}
use Rattle.key_orders.proofs.laws.within_has_the_laws.Goals as goal

pub returns : goal.returns
returns c = record {
  none_right = λ specs high s e out above. c.reaching_has_the_laws.ensures.none_right (columns_of specs) tid_order (columns_total specs) tid_order_total high s e out above;
  lower = λ specs high s t below reaches. c.reaching_has_the_laws.ensures.lower (columns_of specs) tid_order (columns_total specs) tid_order_total high s t below reaches;
}
