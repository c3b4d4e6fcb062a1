use Rattle.std.proofs.Common.{◌∙◌, ap, subst, sym}
use Rattle.cmd_answers.specs.Seen.{outcome_seen}
use Rattle.join_row_entries.specs.Entries.{AreEntries}
use Rattle.cmd_run.specs.Reindex.{index_made}
use Rattle.cmd_run.proofs.ReindexLaws.{doubted_code, doubted_shown, its_file, listed_may, listed_shown}
use Rattle.cmd_run.proofs.reindex.heap_index_output.Goals as goal

pub returns-in_ok-entries_index_output-in-Listed-clause-output : goal.returns-in_ok-entries_index_output-in-Listed-clause-output
returns-in_ok-entries_index_output-in-Listed-clause-output g c = λ names told.
    let are = subst (AreEntries c.args.case.now names c.args.index) c.in-Listed.is (c.in_ok-entries.ensures.entries names told) in
    listed_shown c.args.case.now names c.args.index c.in-Listed.entries (outcome_seen c.in_ok-entries_index_output-in-Listed.field-0) are
    (c.in_ok-entries_index_output-in-Listed.ensures.output ∙ ap (λ file. index_made c.in-Listed.entries file) (sym (its_file _ _ c.index_file.ensures)))

pub returns-in_ok-entries_index_output-in-Listed-clause-made : goal.returns-in_ok-entries_index_output-in-Listed-clause-made
returns-in_ok-entries_index_output-in-Listed-clause-made g c = λ names told e.
    let are = subst (AreEntries c.args.case.now names c.args.index) c.in-Listed.is (c.in_ok-entries.ensures.entries names told) in
    listed_may c.args.case.now names c.args.index c.in-Listed.entries are (c.in_ok-entries_index_output-in-Listed.ensures.made e)

pub returns-in_ok-report_output-in-Doubted-clause-output : goal.returns-in_ok-report_output-in-Doubted-clause-output
returns-in_ok-report_output-in-Doubted-clause-output g c = λ names told.
    let are = subst (AreEntries c.args.case.now names c.args.index) c.in-Doubted.is (c.in_ok-entries.ensures.entries names told) in
    doubted_shown c.args.case.now names c.args.index c.in-Doubted.report (outcome_seen c.in_ok-report_output-in-Doubted.field-0) are c.in_ok-report_output-in-Doubted.ensures

pub returns-in_ok-report_output-in-Doubted-clause-made : goal.returns-in_ok-report_output-in-Doubted-clause-made
returns-in_ok-report_output-in-Doubted-clause-made g c = λ names told e.
    let are = subst (AreEntries c.args.case.now names c.args.index) c.in-Doubted.is (c.in_ok-entries.ensures.entries names told) in
    absurd (doubted_code c.args.case.now names c.args.index c.in-Doubted.report (outcome_seen c.in_ok-report_output-in-Doubted.field-0) are c.in_ok-report_output-in-Doubted.ensures e)
