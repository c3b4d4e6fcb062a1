use Rattle.hot_chains.proofs.Law.{one_live}
use Rattle.hot_chains.proofs.laws.roots_reach_one_live_tuple.Goals as goal

pub returns : goal.returns
returns c = one_live
