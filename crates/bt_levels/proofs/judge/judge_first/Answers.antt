use Rattle.std.proofs.Common.{◌∙◌, ap, subst, sym}
use Rattle.outside.specs.Adds.{Begins}
use Rattle.outside.proofs.Adding.{Adds-exit, Begins-none}
use Rattle.reports.specs.Added.{joined, report_lists}
use Rattle.reports.specs.Lists.{Lists}
use Rattle.bt_pages.specs.Trees.{tree_seen}
use Rattle.bt_levels.specs.Lists.{first_lists}
use Rattle.bt_levels.proofs.First.{first-none, quiet-none}
use Rattle.bt_levels.proofs.judge.judge_first.Goals as goal

pub returns-in_err-add_found-clause-lists : goal.returns-in_err-add_found-clause-lists
returns-in_err-add_found-clause-lists g c names told =
    Adds-exit report_lists c.from_residual.result _ c.args.report.now c.add_found.new.report (first_lists (tree_seen names c.args.tree.now)) c.from_residual.ensures.1
    (subst (λ (l : Lists). Begins report_lists c.args.report.now c.add_found.new.report l) (first-none (tree_seen names c.args.tree.now) (sym c.blocks-blocks.ensures ∙ c.if-blocks-eq0.true)) c.in_err-add_found.ensures)

pub returns-then-blocks-eq0-clause-lists : goal.returns-then-blocks-eq0-clause-lists
returns-then-blocks-eq0-clause-lists g c names told = c.in_ok-add_found.ensures ∙ ap (joined c.args.report.now) (first-none (tree_seen names c.args.tree.now) (sym c.blocks-blocks.ensures ∙ c.if-blocks-eq0.true))

pub returns-then-blocks-eq0-clause-quiet : goal.returns-then-blocks-eq0-clause-quiet
returns-then-blocks-eq0-clause-quiet g c names told = quiet-none (tree_seen names c.args.tree.now) (sym c.blocks-blocks.ensures ∙ c.if-blocks-eq0.true)

pub returns-in_err-read_block-clause-lists : goal.returns-in_err-read_block-clause-lists
returns-in_err-read_block-clause-lists g c names told =
    Adds-exit report_lists c.from_residual-in_err-read_block.result _ c.args.report.now c.args.report.now (first_lists (tree_seen names c.args.tree.now)) c.from_residual-in_err-read_block.ensures.1
    (Begins-none report_lists c.args.report.now (first_lists (tree_seen names c.args.tree.now)))
