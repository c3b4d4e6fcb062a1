use Rattle.laws_search.proofs.Keys.{keys_total, key_order_laws, scan_laws, back_laws, none_left, right_of_lower}
use Rattle.laws_search.proofs.keys_have_the_laws.Goals as goal

pub returns : goal.returns
returns g c = record {
  total = λ cs ts laws tids. keys_total cs laws ts tids;
  order = λ cs ts laws tids. key_order_laws cs laws ts tids;
  scan = λ cs ts laws tids low high. scan_laws cs laws ts tids low high;
  back = λ cs ts laws tids low high. back_laws cs laws ts tids low high;
  left = λ cs ts laws tids low s e right within. none_left cs laws ts tids low s e right within;
  lower = λ cs ts laws tids n low s t is it below right. right_of_lower cs laws ts tids n low s t is it below right;
}
