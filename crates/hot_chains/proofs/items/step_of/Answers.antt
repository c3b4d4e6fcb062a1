use Rattle.std.proofs.Common.{sym, ◌∙◌}
use Rattle.hot_chains.proofs.Stepping.{redirect_step, tuple_step, unused_step}
use Rattle.hot_chains.proofs.items.step_of.Goals as goal

pub returns-in-Redirect : goal.returns-in-Redirect
returns-in-Redirect c = c.redirect_step.ensures ∙ sym (redirect_step _ _ _ _ (sym c.requires.item ∙ c.in-Redirect.is))

pub returns-in-Tuple : goal.returns-in-Tuple
returns-in-Tuple c = c.tuple_step.ensures ∙ sym (tuple_step _ _ _ _ _ (sym c.requires.item ∙ c.in-Tuple.is))

pub returns-in-Unused : goal.returns-in-Unused
returns-in-Unused c = sym (unused_step _ _ _ _ c.requires.item c.in-Unused.is)
