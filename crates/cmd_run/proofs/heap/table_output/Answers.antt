use Rattle.std.proofs.Common.{◌∙◌, ap}
use Rattle.std.proofs.lemmas.Result.{IfOk-weaker}
use Rattle.cmd_answers.specs.Outcome.{Judged, owed_by}
use Rattle.cmd_run.proofs.RangeLaws.{of_none}
use Rattle.cmd_run.proofs.heap.table_output.Goals as goal

pub returns-clause-output : goal.returns-clause-output
returns-clause-output g c =
    IfOk-weaker c.report_on_case.result _ _ (λ o is names told. is names told ∙ ap (λ (j : Judged). owed_by j) (of_none names c.args.case.now)) c.report_on_case.ensures.output
