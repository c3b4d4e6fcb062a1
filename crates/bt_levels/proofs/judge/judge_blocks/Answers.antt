use Rattle.std.proofs.Common.{◌∙◌, ap, subst, sym}
use Rattle.outside.specs.Adds.{Begins}
use Rattle.outside.proofs.Adding.{Adds-exit, Begins-cut, Begins-none, Begins-then}
use Rattle.reports.specs.Added.{joined, report_lists}
use Rattle.reports.specs.Lists.{Lists}
use Rattle.bt_pages.specs.Trees.{tree_seen}
use Rattle.bt_levels.specs.Lists.{blocks_lists, first_lists, is_first_quiet, lists_where, other_lists}
use Rattle.bt_levels.proofs.First.{blocks-loud, blocks-quiet}
use Rattle.bt_levels.proofs.judge.judge_blocks.Goals as goal

pub returns-in_err-judge_first-clause-lists : goal.returns-in_err-judge_first-clause-lists
unfolding blocks_lists
returns-in_err-judge_first-clause-lists g c names told =
    Adds-exit report_lists c.from_residual.result _ c.args.report.now c.judge_first.new.report (blocks_lists (tree_seen names c.args.tree.now)) c.from_residual.ensures.1
    (Begins-cut report_lists (lists_where (is_first_quiet (tree_seen names c.args.tree.now)) (other_lists (tree_seen names c.args.tree.now))) (c.in_err-judge_first.ensures.lists names told))

pub returns-in_err-judge_others-clause-lists : goal.returns-in_err-judge_others-clause-lists
returns-in_err-judge_others-clause-lists g c names told =
    Adds-exit report_lists c.from_residual-in_err-judge_others.result _ c.args.report.now c.judge_others.new.report (blocks_lists (tree_seen names c.args.tree.now)) c.from_residual-in_err-judge_others.ensures.1
    (subst (λ (l : Lists). Begins report_lists c.args.report.now c.judge_others.new.report l) (blocks-quiet (tree_seen names c.args.tree.now) (sym c.if-not-branch.false ∙ c.in_ok-judge_first.ensures.quiet names told))
    (Begins-then report_lists c.args.report.now c.judge_first.new.report c.judge_others.new.report (first_lists (tree_seen names c.args.tree.now)) (other_lists (tree_seen names c.args.tree.now)) (c.in_ok-judge_first.ensures.lists names told)
    (subst (λ rules. Begins report_lists c.judge_first.new.report c.judge_others.new.report (other_lists (tree_seen names rules))) c.in_ok-seen.ensures.rules
    (c.in_err-judge_others.ensures.lists names (c.in_ok-walk.ensures.asked.same ∙ c.in_ok-judge_first.ensures.asked.same ∙ told)))))

pub returns-in_err-walk-clause-lists : goal.returns-in_err-walk-clause-lists
returns-in_err-walk-clause-lists g c names told =
    Adds-exit report_lists c.from_residual-in_err-walk.result _ c.args.report.now c.judge_first.new.report (blocks_lists (tree_seen names c.args.tree.now)) c.from_residual-in_err-walk.ensures.1
    (subst (λ (l : Lists). Begins report_lists c.args.report.now c.judge_first.new.report l) (blocks-quiet (tree_seen names c.args.tree.now) (sym c.if-not-branch.false ∙ c.in_ok-judge_first.ensures.quiet names told))
    (Begins-then report_lists c.args.report.now c.judge_first.new.report c.judge_first.new.report (first_lists (tree_seen names c.args.tree.now)) (other_lists (tree_seen names c.args.tree.now)) (c.in_ok-judge_first.ensures.lists names told)
    (Begins-none report_lists c.judge_first.new.report (other_lists (tree_seen names c.args.tree.now)))))

pub returns-in_err-seen-clause-lists : goal.returns-in_err-seen-clause-lists
returns-in_err-seen-clause-lists g c names told =
    Adds-exit report_lists c.from_residual-in_err-seen.result _ c.args.report.now c.judge_first.new.report (blocks_lists (tree_seen names c.args.tree.now)) c.from_residual-in_err-seen.ensures.1
    (subst (λ (l : Lists). Begins report_lists c.args.report.now c.judge_first.new.report l) (blocks-quiet (tree_seen names c.args.tree.now) (sym c.if-not-branch.false ∙ c.in_ok-judge_first.ensures.quiet names told))
    (Begins-then report_lists c.args.report.now c.judge_first.new.report c.judge_first.new.report (first_lists (tree_seen names c.args.tree.now)) (other_lists (tree_seen names c.args.tree.now)) (c.in_ok-judge_first.ensures.lists names told)
    (Begins-none report_lists c.judge_first.new.report (other_lists (tree_seen names c.args.tree.now)))))

pub returns-clause-lists : goal.returns-clause-lists
returns-clause-lists g c names told =
    c.in_ok-judge_others.ensures.lists names (c.in_ok-walk.ensures.asked.same ∙ c.in_ok-judge_first.ensures.asked.same ∙ told)
    ∙ ap (λ rules. joined c.judge_first.new.report (other_lists (tree_seen names rules))) c.in_ok-seen.ensures.rules
    ∙ ap (λ (l : Lists). joined l (other_lists (tree_seen names c.args.tree.now))) (c.in_ok-judge_first.ensures.lists names told)
    ∙ report_lists.in_turn c.args.report.now (first_lists (tree_seen names c.args.tree.now)) (other_lists (tree_seen names c.args.tree.now))
    ∙ ap (joined c.args.report.now) (blocks-quiet (tree_seen names c.args.tree.now) (sym c.if-not-branch.false ∙ c.in_ok-judge_first.ensures.quiet names told))

pub returns-then-not-branch-clause-lists : goal.returns-then-not-branch-clause-lists
returns-then-not-branch-clause-lists g c names told =
    c.in_ok-judge_first.ensures.lists names told
    ∙ ap (joined c.args.report.now) (blocks-loud (tree_seen names c.args.tree.now) (sym c.if-not-branch.true ∙ c.in_ok-judge_first.ensures.quiet names told))
