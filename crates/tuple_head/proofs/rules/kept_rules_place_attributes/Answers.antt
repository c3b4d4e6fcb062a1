use Rattle.tuple_head.proofs.Exact.{attributes_are_placed}
use Rattle.tuple_head.proofs.rules.kept_rules_place_attributes.Goals as goal

pub returns : goal.returns
returns c = attributes_are_placed
