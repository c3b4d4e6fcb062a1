use Rattle.std.proofs.Common.{refl}
use Rattle.heap_page_check.proofs.JointRules.{no_chains_found}
use Rattle.heap_page_check.proofs.joint.judge_chains.Goals as goal

pub returns-then-has_no_chains : goal.returns-then-has_no_chains
returns-then-has_no_chains c = no_chains_found _ _ _ _ (c.pages_without_chains.ensures.rules _ _ (c.if-has_no_chains.ensures.0 refl))
