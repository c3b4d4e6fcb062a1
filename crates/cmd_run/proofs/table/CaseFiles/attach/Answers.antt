use Rattle.std.proofs.Common.{◌∙◌}
use Rattle.std.specs.Global.{Global}
use Rattle.std.specs.declared.collections.VecDeque.{VecDeque}
use Rattle.std.specs.Option.{option_or}
use Rattle.std.proofs.lemmas.Result.{err_from_is_err_and}
use Rattle.rel_files.proofs.Refusals.{first_tells, second_tells}
use Rattle.heap_table_check.specs.Files.{refusal_of}
use Rattle.heap_table_check.specs.declared.files.HeapFiles.{HeapFiles}
use Rattle.bt_levels.specs.declared.files.TreeFile.{TreeFile}
use Rattle.cmd_run.specs.Ranges.{indexes_refusal}
use Rattle.cmd_run.specs.declared.table.CaseFiles.{CaseFiles}
use Rattle.cmd_run.proofs.table.CaseFiles.attach.Goals as goal

pub returns-in_err-table-clause-refusal : goal.returns-in_err-table-clause-refusal
returns-in_err-table-clause-refusal g c names told =
    let p = err_from_is_err_and c.from_residual.result c.from_residual.ensures.1 in
    let case = c.args.case.now in
    rw (p.1, p.2) (first_tells HeapFiles CaseFiles (refusal_of case names) (indexes_refusal case names c.args.indexes.start c.args.indexes.end) _ (c.in_err-table.ensures.refusal names told))

pub returns-in_err-trees-clause-refusal : goal.returns-in_err-trees-clause-refusal
returns-in_err-trees-clause-refusal g c names told =
    let p = err_from_is_err_and c.from_residual-in_err-trees.result c.from_residual-in_err-trees.ensures.1 in
    let case = c.args.case.now in
    rw (p.1, p.2) (second_tells (VecDeque TreeFile Global) CaseFiles (refusal_of case names) (indexes_refusal case names c.args.indexes.start c.args.indexes.end) _ (c.in_ok-table.ensures.refusal names told)
    (c.in_err-trees.ensures.refusal names (c.in_ok-table.ensures.asked.same ∙ told)))

pub returns-clause-told : goal.returns-clause-told
returns-clause-told g c names told = c.in_ok-trees.ensures.told names (c.in_ok-table.ensures.asked.same ∙ told)

pub returns-clause-refusal : goal.returns-clause-refusal
returns-clause-refusal g c names told =
    let table = c.in_ok-table.ensures.refusal names told in
    let trees = c.in_ok-trees.ensures.refusal names (c.in_ok-table.ensures.asked.same ∙ told) in
    λ i. option_or (table i) (trees i)
