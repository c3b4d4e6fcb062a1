use Rattle.laws_building.proofs.Splits.{key_order_is, splits, shortest, ties, pivot_shape}
use Rattle.laws_building.proofs.Ends.{kept_ends}
use Rattle.laws_building.proofs.keys_split.Goals as goal

pub returns : goal.returns
returns g c = record {
  order = λ cs ts laws tids. key_order_is cs laws ts (c.keys_have_the_laws.ensures.total cs ts laws tids) (c.keys_have_the_laws.ensures.order cs ts laws tids);
  splits = λ cs ts laws tids. splits cs laws ts tids;
  shortest = λ cs ts laws d e below. shortest cs laws ts d e below;
  size = λ cs ts laws lay fits d e below. kept_ends lay fits cs ts laws d e below;
  ties = λ cs ts d e below equal. ties cs ts d e below equal;
  shape = λ cs ts laws columns d e some long below. pivot_shape cs laws ts columns d e some long below;
}
