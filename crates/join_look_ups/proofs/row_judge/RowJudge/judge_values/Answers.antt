use Rattle.std.proofs.Common.{◌∙◌, ap, map, subst}
use Rattle.outside.proofs.Adding.{Adds-exit, Begins-none}
use Rattle.outside.specs.Adds.{Begins}
use Rattle.key_orders.specs.Values.{value_shown}
use Rattle.reports.specs.Added.{joined, report_lists}
use Rattle.reports.specs.Lists.{Lists}
use Rattle.join_look_ups.specs.Rows.{lists_of_row}
use Rattle.join_look_ups.proofs.Owed.{valued-row}
use Rattle.join_look_ups.proofs.row_judge.RowJudge.judge_values.Goals as goal

pub returns-in_err-found-clause-lists : goal.returns-in_err-found-clause-lists
returns-in_err-found-clause-lists g c = λ names told live at from has.
    let owed = lists_of_row names c.args.self.index.at.tree.now live in
    Adds-exit report_lists c.from_residual.result _ c.args.report.now c.args.report.now owed c.from_residual.ensures.1 (Begins-none report_lists c.args.report.now owed)

pub returns-in_err-add_rule-clause-lists : goal.returns-in_err-add_rule-clause-lists
returns-in_err-add_rule-clause-lists g c = λ names told live at from has.
    let tree = c.args.self.index.at.tree.now in
    let row = c.args.row in
    let owed = lists_of_row names tree live in
    let rule = valued-row names tree live row.key.now (map value_shown row.more.now) c.index.result row.place.tid row.place.root c.in_ok-found.found c.missing_rule-rule.result has c.index.ensures at from (c.in_ok-found.ensures.found names told) c.missing_rule-rule.ensures in
    Adds-exit report_lists c.from_residual-in_err-add_rule.result _ c.args.report.now c.add_rule.new.self owed c.from_residual-in_err-add_rule.ensures.1
    (subst (λ (l : Lists). Begins report_lists c.args.report.now c.add_rule.new.self l) rule c.in_err-add_rule.ensures)

pub returns-clause-lists : goal.returns-clause-lists
returns-clause-lists g c = λ names told live at from has.
    let tree = c.args.self.index.at.tree.now in
    let row = c.args.row in
    c.in_ok-add_rule.ensures
    ∙ ap (joined c.args.report.now) (valued-row names tree live row.key.now (map value_shown row.more.now) c.index.result row.place.tid row.place.root c.in_ok-found.found c.missing_rule-rule.result has c.index.ensures at from (c.in_ok-found.ensures.found names told) c.missing_rule-rule.ensures)
