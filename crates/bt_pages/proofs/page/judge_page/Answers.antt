use Rattle.std.proofs.Common.{◌∙◌, ap, subst, sym}
use Rattle.outside.specs.Adds.{AddsIn, Begins}
use Rattle.outside.proofs.Adding.{Adds-exit, Adds-then, Begins-cut, Begins-none}
use Rattle.page_layout.specs.View.{page_bytes}
use Rattle.reports.specs.Added.{finding_at, joined, report_lists}
use Rattle.reports.specs.Lists.{Lists}
use Rattle.bt_pages.specs.Found.{block_place, items_lists, page_lists}
use Rattle.bt_pages.specs.Trees.{tree_seen}
use Rattle.bt_pages.proofs.Lists.{page-broken, page-idle, page-live}
use Rattle.bt_pages.proofs.page.judge_page.Goals as goal

pub returns-in_err-add_rule-in-Some-clause-lists : goal.returns-in_err-add_rule-in-Some-clause-lists
returns-in_err-add_rule-in-Some-clause-lists g c names told =
    Adds-exit report_lists c.from_residual.result _ c.args.report.now c.add_rule.new.self (page_lists (tree_seen names c.args.tree.now.rules) c.args.b (page_bytes c.args.page)) c.from_residual.ensures.1
    (subst (λ (l : Lists). Begins report_lists c.args.report.now c.add_rule.new.self l) (page-broken (tree_seen names c.args.tree.now.rules) c.args.b (page_bytes c.args.page) c.in-Some.rule (sym c.in-Some.is ∙ c.lone_rule.ensures.value)) c.in_err-add_rule-in-Some.ensures)

pub returns-in_ok-add_rule-in-Some-clause-lists : goal.returns-in_ok-add_rule-in-Some-clause-lists
returns-in_ok-add_rule-in-Some-clause-lists g c names told =
    c.in_ok-add_rule-in-Some.ensures ∙ ap (joined c.args.report.now) (page-broken (tree_seen names c.args.tree.now.rules) c.args.b (page_bytes c.args.page) c.in-Some.rule (sym c.in-Some.is ∙ c.lone_rule.ensures.value))

pub returns-then-is_idle-clause-lists : goal.returns-then-is_idle-clause-lists
returns-then-is_idle-clause-lists g c names told =
    let none = page-idle (tree_seen names c.args.tree.now.rules) c.args.b (page_bytes c.args.page) (sym c.in-None.is ∙ c.lone_rule.ensures.value) (sym c.is_idle.ensures ∙ c.if-is_idle.true) in
    sym (report_lists.with_none c.args.report.now) ∙ ap (joined c.args.report.now) (sym none)

pub returns-in_err-rule-in-None-clause-lists : goal.returns-in_err-rule-in-None-clause-lists
returns-in_err-rule-in-None-clause-lists g c names told =
    Adds-exit report_lists c.from_residual-in_err-rule-in-None.result _ c.args.report.now c.args.report.now (page_lists (tree_seen names c.args.tree.now.rules) c.args.b (page_bytes c.args.page)) c.from_residual-in_err-rule-in-None.ensures.1
    (Begins-none report_lists c.args.report.now (page_lists (tree_seen names c.args.tree.now.rules) c.args.b (page_bytes c.args.page)))

pub returns-in_err-add_rule-in-None-clause-lists : goal.returns-in_err-add_rule-in-None-clause-lists
returns-in_err-add_rule-in-None-clause-lists g c names told =
    Adds-exit report_lists c.from_residual-in_err-add_rule-in-None.result _ c.args.report.now c.add_rule-in-None.new.self (page_lists (tree_seen names c.args.tree.now.rules) c.args.b (page_bytes c.args.page)) c.from_residual-in_err-add_rule-in-None.ensures.1
    (subst (λ (l : Lists). Begins report_lists c.args.report.now c.add_rule-in-None.new.self l)
    (page-live (tree_seen names c.args.tree.now.rules) c.args.b (page_bytes c.args.page) c.in_ok-rule-in-None.rule (sym c.in-None.is ∙ c.lone_rule.ensures.value) (sym c.is_idle.ensures ∙ c.if-is_idle.false) (c.in_ok-rule-in-None.ensures.told names told))
    (Begins-cut report_lists (items_lists (tree_seen names c.args.tree.now.rules) c.args.b (page_bytes c.args.page)) c.in_err-add_rule-in-None.ensures))

pub returns-in_ok-add_rule-in-None-clause-lists : goal.returns-in_ok-add_rule-in-None-clause-lists
returns-in_ok-add_rule-in-None-clause-lists g c names told =
    subst (λ (l : Lists). AddsIn report_lists c.judge_items.result c.args.report.now c.judge_items.new.report l)
    (page-live (tree_seen names c.args.tree.now.rules) c.args.b (page_bytes c.args.page) c.in_ok-rule-in-None.rule (sym c.in-None.is ∙ c.lone_rule.ensures.value) (sym c.is_idle.ensures ∙ c.if-is_idle.false) (c.in_ok-rule-in-None.ensures.told names told))
    (Adds-then report_lists c.judge_items.result c.args.report.now c.add_rule-in-None.new.self c.judge_items.new.report
    (finding_at (block_place (tree_seen names c.args.tree.now.rules) c.args.b) c.in_ok-rule-in-None.rule) (items_lists (tree_seen names c.args.tree.now.rules) c.args.b (page_bytes c.args.page))
    c.in_ok-add_rule-in-None.ensures
    (subst (λ rules. AddsIn report_lists c.judge_items.result c.add_rule-in-None.new.self c.judge_items.new.report (items_lists (tree_seen names rules) c.args.b (page_bytes c.args.page)))
    c.in_ok-rule-in-None.ensures.tree.rules (c.judge_items.ensures.lists names (c.in_ok-rule-in-None.ensures.asked.same ∙ told))))
