use Rattle.std.proofs.Common.{◌∙◌, ap}
use Rattle.std.specs.Prelude.{Option}
use Rattle.reports.specs.Added.{joined}
use Rattle.reports.specs.Lists.{Lists}
use Rattle.heap_table_check.specs.Found.{case_found}
use Rattle.heap_table_check.specs.declared.files.SoundHeap.{SoundHeap}
use Rattle.cmd_answers.specs.Seen.{outcome_seen}
use Rattle.cmd_run.specs.Tables.{IsHeapOf}
use Rattle.cmd_run.proofs.OpeningLaws.{opened_table, reported_table}
use Rattle.cmd_run.proofs.TogetherLaws.{heap-judged}
use Rattle.cmd_run.proofs.table.judge_table.Goals as goal

pub returns-in-Some-clause-opening : goal.returns-in-Some-clause-opening
returns-in-Some-clause-opening g c = λ names told.
    let case = c.args.case.now in
    let heap : Option SoundHeap = c.in_ok-heap.field-0 in
    let of : IsHeapOf case names heap = heap-judged g.F.Files.seen c.args.files.now case names told heap (c.in_ok-heap.ensures.quiet names told) c.in_ok-heap.ensures.sound in
    opened_table case names heap of c.in-Some.heap c.in-Some.is

pub returns-clause-opening : goal.returns-clause-opening
returns-clause-opening g c = λ names told.
    let case = c.args.case.now in
    let heap : Option SoundHeap = c.in_ok-heap.field-0 in
    let of : IsHeapOf case names heap = heap-judged g.F.Files.seen c.args.files.now case names told heap (c.in_ok-heap.ensures.quiet names told) c.in_ok-heap.ensures.sound in
    let added = c.in_ok-heap.ensures.found names told ∙ ap (λ (l : Lists). joined l (case_found case names)) c.new-report.ensures in
    reported_table case names heap of (outcome_seen c.in_ok-report_output-in-None.field-0) c.check_heap.new.report c.in-None.is c.in_ok-report_output-in-None.ensures added
