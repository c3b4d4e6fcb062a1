use Rattle.laws_levels.proofs.Keyed.{keys_transitive, keys_same}
use Rattle.laws_levels.proofs.keys_fit.Goals as goal

pub returns : goal.returns
returns g c = record {
  transitive = λ cs ts laws tids. keys_transitive cs ts (c.keys_have_the_laws.ensures.total cs ts laws tids);
  same = λ cs ts laws tids apart tids_apart. keys_same cs ts (c.keys_have_the_laws.ensures.total cs ts laws tids) apart tids_apart;
}
