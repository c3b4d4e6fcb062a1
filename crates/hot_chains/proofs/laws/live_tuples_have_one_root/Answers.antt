use Rattle.hot_chains.proofs.Law.{one_root}
use Rattle.hot_chains.proofs.laws.live_tuples_have_one_root.Goals as goal

pub returns : goal.returns
returns c = one_root
