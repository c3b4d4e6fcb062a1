use Rattle.hot_chains.proofs.Bare.{bare_rules, bare_roots}
use Rattle.hot_chains.proofs.laws.pages_without_chains.Goals as goal

pub returns-clause-rules : goal.returns-clause-rules
returns-clause-rules c = bare_rules

pub returns-clause-roots : goal.returns-clause-roots
returns-clause-roots c = bare_roots
