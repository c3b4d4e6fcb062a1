use Rattle.std.proofs.Common.{◌+◌, ◌∙◌, ap, arith, subst}
use Rattle.outside.proofs.Adding.{Adds-exit}
use Rattle.outside.specs.Adds.{Begins}
use Rattle.page_layout.specs.View.{page_bytes}
use Rattle.reports.proofs.Upto.{upto-cut, upto-next, upto-none}
use Rattle.reports.specs.Added.{joined, report_lists}
use Rattle.reports.specs.Lists.{Lists}
use Rattle.heap_page_check.specs.Alone.{lone_item_found}
use Rattle.heap_page_check.proofs.AloneLaws.{lone_is}
use Rattle.heap_page_check.proofs.alone.judge_lone_items.Goals as goal

pub loop-k-init : goal.loop-k-init
loop-k-init c = upto-none report_lists _ _

pub loop-k-preserved : goal.loop-k-preserved
loop-k-preserved c =
    upto-next report_lists _ _ _ _ _ c.loop-k.invariant
    (c.in_ok-add_rule.ensures ∙ ap (joined c.loop-k.report) (lone_is c.args.block (page_bytes c.args.page) (c.loop-k.k + 1) _ c.lone_item_rule-rule.ensures))

pub returns-in_err-add_rule : goal.returns-in_err-add_rule
returns-in_err-add_rule c =
    let here = subst (λ (l : Lists). Begins report_lists c.loop-k.report c.add_rule.new.self l) (lone_is c.args.block (page_bytes c.args.page) (c.loop-k.k + 1) _ c.lone_item_rule-rule.ensures) c.in_err-add_rule.ensures in
    Adds-exit report_lists c.from_residual.result _ _ _ _ c.from_residual.ensures.1
    (upto-cut report_lists (lone_item_found c.args.block (page_bytes c.args.page)) c.loop-k.k _ _ _ _ (omega (arith, c.loop-k-test.true)) c.loop-k.invariant here)
