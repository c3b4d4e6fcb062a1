use Rattle.std.proofs.Common.{◌∙◌, List, length, map, sym, ap, subst}
use Rattle.std.specs.Prelude.{Some}
use Rattle.outside.proofs.Adding.{Adds-exit}
use Rattle.outside.specs.Adds.{Begins}
use Rattle.key_orders.specs.declared.more.MoreSpec.{MoreSpec}
use Rattle.reports.specs.Added.{joined, report_lists}
use Rattle.reports.specs.Lists.{Lists}
use Rattle.join_rules.specs.Rows.{values_at}
use Rattle.join_look_ups.specs.Rows.{lists_of_row}
use Rattle.join_look_ups.proofs.Owed.{packed-key, packed-more}
use Rattle.join_look_ups.proofs.row_judge.RowJudge.judge_row.Goals as goal

pub returns-in_err-add_doubt-clause-lists : goal.returns-in_err-add_doubt-clause-lists
returns-in_err-add_doubt-clause-lists g c = λ names told row found.
    let tree = c.args.self.index.at.tree.now in
    let owed = lists_of_row names tree row in
    let doubt = packed-key names tree row c.args.place.tid (sym (c.if-not-read_key.ensures.key names row found.rows found.cursor_of found.here)) found.tid in
    Adds-exit report_lists c.from_residual.result _ c.args.report.now c.add_doubt.new.report owed c.from_residual.ensures.1
    (subst (λ (l : Lists). Begins report_lists c.args.report.now c.add_doubt.new.report l) doubt c.in_err-add_doubt.ensures)

pub returns-then-not-read_key-clause-lists : goal.returns-then-not-read_key-clause-lists
returns-then-not-read_key-clause-lists g c = λ names told row found.
    c.in_ok-add_doubt.ensures
    ∙ ap (joined c.args.report.now) (packed-key names c.args.self.index.at.tree.now row c.args.place.tid (sym (c.if-not-read_key.ensures.key names row found.rows found.cursor_of found.here)) found.tid)

pub judge_values-requires-clause-more : goal.judge_values-requires-clause-more
judge_values-requires-clause-more g c = sym (ap length (c.includes.ensures c.if-not-includes.true))

pub returns-then-not-includes-clause-lists : goal.returns-then-not-includes-clause-lists
returns-then-not-includes-clause-lists g c = λ names told row found.
    c.judge_values.ensures.lists names told row found.tid found.root
    (record {
      of_key = sym (c.if-not-read_key.ensures.key names row found.rows found.cursor_of found.here);
      included = ap (λ (ms : List MoreSpec). values_at (map (λ m. m.column) ms) row.cells) (c.includes.ensures c.if-not-includes.true);
    })

pub returns-in_err-add_doubt-2-clause-lists : goal.returns-in_err-add_doubt-2-clause-lists
returns-in_err-add_doubt-2-clause-lists g c = λ names told row found.
    let tree = c.args.self.index.at.tree.now in
    let owed = lists_of_row names tree row in
    let doubt = packed-more names tree row c.read_key.new.key c.args.place.tid (sym (c.if-not-read_key.ensures.key names row found.rows found.cursor_of found.here)) (sym (c.if-not-read_more.ensures.more names row found.rows found.cursor_of found.here)) found.tid in
    Adds-exit report_lists c.from_residual-in_err-add_doubt-2.result _ c.args.report.now c.add_doubt-then-not-read_more.new.report owed c.from_residual-in_err-add_doubt-2.ensures.1
    (subst (λ (l : Lists). Begins report_lists c.args.report.now c.add_doubt-then-not-read_more.new.report l) doubt c.in_err-add_doubt-2.ensures)

pub returns-then-not-read_more-clause-lists : goal.returns-then-not-read_more-clause-lists
returns-then-not-read_more-clause-lists g c = λ names told row found.
    c.in_ok-add_doubt-2.ensures
    ∙ ap (joined c.args.report.now) (packed-more names c.args.self.index.at.tree.now row c.read_key.new.key c.args.place.tid (sym (c.if-not-read_key.ensures.key names row found.rows found.cursor_of found.here)) (sym (c.if-not-read_more.ensures.more names row found.rows found.cursor_of found.here)) found.tid)

pub returns-clause-lists : goal.returns-clause-lists
returns-clause-lists g c = λ names told row found.
    c.judge_values-2.ensures.lists names told row found.tid found.root
    (record {
      of_key = sym (c.if-not-read_key.ensures.key names row found.rows found.cursor_of found.here);
      included = sym (c.if-not-read_more.ensures.more names row found.rows found.cursor_of found.here) ∙ (λ i. Some (sym c.as_slice-more.ensures.values i));
    })
