use Rattle.std.proofs.Common.{arith}
use Rattle.hot_chains.proofs.Soon.{reaches_soon}
use Rattle.hot_chains.proofs.Whole.{root_is_right}
use Rattle.hot_chains.proofs.Told.{first_told, none_told, rule_told}
use Rattle.hot_chains.proofs.laws.tests_are_sentences.Goals as goal

pub returns-clause-root : goal.returns-clause-root
returns-clause-root c = λ block items i first. root_is_right block items i (λ z. absurd (omega arith))

pub returns-clause-soon : goal.returns-clause-soon
returns-clause-soon c = reaches_soon

pub returns-clause-rules : goal.returns-clause-rules
returns-clause-rules c = rule_told

pub returns-clause-none : goal.returns-clause-none
returns-clause-none c = none_told

pub returns-clause-some : goal.returns-clause-some
returns-clause-some c = first_told
