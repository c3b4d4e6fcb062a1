use Rattle.std.proofs.Common.{◌∙◌, ap, subst}
use Rattle.outside.specs.Adds.{Begins}
use Rattle.outside.proofs.Adding.{Adds-exit, Begins-none}
use Rattle.page_layout.specs.View.{page_bytes}
use Rattle.reports.specs.Added.{joined, report_lists}
use Rattle.reports.specs.Lists.{Lists}
use Rattle.bt_pages.specs.Found.{item_lists}
use Rattle.bt_pages.specs.Trees.{tree_seen}
use Rattle.bt_pages.proofs.Lists.{lists-item}
use Rattle.bt_pages.proofs.page.judge_item.Goals as goal

pub returns-in_err-rule-clause-lists : goal.returns-in_err-rule-clause-lists
returns-in_err-rule-clause-lists g c names told =
    Adds-exit report_lists c.from_residual.result _ c.args.report.now c.args.report.now (item_lists (tree_seen names c.args.tree.now.rules) c.args.at.block (page_bytes c.args.page) c.args.at.item) c.from_residual.ensures.1
    (Begins-none report_lists c.args.report.now (item_lists (tree_seen names c.args.tree.now.rules) c.args.at.block (page_bytes c.args.page) c.args.at.item))

pub returns-in_err-add_found-clause-lists : goal.returns-in_err-add_found-clause-lists
returns-in_err-add_found-clause-lists g c names told =
    Adds-exit report_lists c.from_residual-in_err-add_found.result _ c.args.report.now c.add_found.new.report (item_lists (tree_seen names c.args.tree.now.rules) c.args.at.block (page_bytes c.args.page) c.args.at.item) c.from_residual-in_err-add_found.ensures.1
    (subst (λ (l : Lists). Begins report_lists c.args.report.now c.add_found.new.report l) (lists-item (tree_seen names c.args.tree.now.rules) (page_bytes c.args.page) c.args.at.item c.args.at.block c.in_ok-rule.rule c.found_on_page-found.result.doubt (c.in_ok-rule.ensures.told names told) c.found_on_page-found.ensures.doubt) c.in_err-add_found.ensures)

pub returns-clause-lists : goal.returns-clause-lists
returns-clause-lists g c names told = c.in_ok-add_found.ensures ∙ ap (joined c.args.report.now) (lists-item (tree_seen names c.args.tree.now.rules) (page_bytes c.args.page) c.args.at.item c.args.at.block c.in_ok-rule.rule c.found_on_page-found.result.doubt (c.in_ok-rule.ensures.told names told) c.found_on_page-found.ensures.doubt)
