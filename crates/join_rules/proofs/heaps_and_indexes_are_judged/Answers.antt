use Rattle.join_rules.proofs.Judging.{judged}
use Rattle.join_rules.proofs.heaps_and_indexes_are_judged.Goals as goal

pub returns : goal.returns
returns c case names n = judged case names n
