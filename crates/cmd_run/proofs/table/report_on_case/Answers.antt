use Rattle.std.proofs.Common.{◌≡◌, ◌∙◌, ap, sym}
use Rattle.std.specs.Prelude.{None, Option}
use Rattle.case_file.specs.Record.{CaseRecord}
use Rattle.rel_files.specs.declared.check_fault.CheckFault.{CheckFault}
use Rattle.reports.specs.Added.{joined}
use Rattle.cmd_answers.specs.Cases.{unless_refused}
use Rattle.cmd_answers.specs.Outcome.{owed_by, reported}
use Rattle.cmd_run.specs.Ranges.{range_found, range_refusal}
use Rattle.cmd_run.specs.Tables.{trees_found}
use Rattle.cmd_run.proofs.RangeLaws.{range_of}
use Rattle.cmd_run.proofs.table.report_on_case.Goals as goal

pub check_heap-requires-clause-told : goal.check_heap-requires-clause-told
check_heap-requires-clause-told g c names told = c.in-Ok.ensures.table names (sym c.in-Ok.ensures.asked.same ∙ told)

pub returns-clause-output : goal.returns-clause-output
returns-clause-output g c names told =
    let case = c.args.case.now in
    let start = c.args.indexes.start in
    let stop = c.args.indexes.end in
    let trees = c.in-Ok.at.trees.items in
    let attached = c.in-Ok.ensures.asked.same ∙ told in
    let table = c.in_ok-heap.ensures.found names attached in
    let indexes = c.in_ok-judge_indexes.ensures.found names (c.in_ok-heap.ensures.asked.same ∙ attached)
    ∙ ap (λ (k : CaseRecord). joined c.check_heap.new.report (trees_found k names trees)) c.new-judged.ensures.case in
    let refusal : range_refusal case names start stop ≡ None = c.in-Ok.ensures.refusal names told in
    c.in_ok-report_output.ensures
    ∙ ap reported (range_of case names start stop trees _ c.check_heap.new.report c.judge_indexes.new.report c.in-Ok.ensures.trees c.new-report.ensures table indexes)
    ∙ sym (ap (λ (r : Option CheckFault). owed_by (unless_refused r case (range_found case names start stop))) refusal)
