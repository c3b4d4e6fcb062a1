use Rattle.std.proofs.Common.{sym, ◌∙◌}
use Rattle.heap_page_check.proofs.InlineLaws.{leaves_no_rule, leaves_none}
use Rattle.heap_page_check.proofs.values.judge_values.Goals as goal

pub returns-then-leaves_nothing-clause-rule : goal.returns-then-leaves_nothing-clause-rule
returns-then-leaves_nothing-clause-rule c = sym (leaves_no_rule _ _ _ _ (sym c.leaves_nothing.ensures ∙ c.if-leaves_nothing.true))

pub returns-then-leaves_nothing-clause-found : goal.returns-then-leaves_nothing-clause-found
returns-then-leaves_nothing-clause-found c = leaves_none _ _ _ _ _ _ _ (sym c.leaves_nothing.ensures ∙ c.if-leaves_nothing.true)
