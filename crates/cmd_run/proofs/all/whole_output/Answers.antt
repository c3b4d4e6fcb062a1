use Rattle.std.proofs.Common.{◌∙◌, ℕ, ap}
use Rattle.std.proofs.lemmas.Result.{IfOk-weaker}
use Rattle.cmd_answers.specs.Outcome.{Judged, owed_by}
use Rattle.cmd_run.specs.Ranges.{range_judged}
use Rattle.cmd_run.proofs.RangeLaws.{of_all}
use Rattle.cmd_run.proofs.all.whole_output.Goals as goal

pub returns-clause-output : goal.returns-clause-output
returns-clause-output g c =
    let case = c.args.case.now in
    IfOk-weaker c.report_on_case.result _ _
    (λ o is names told. is names told ∙ ap (λ (j : Judged). owed_by j) (ap (λ (n : ℕ). range_judged names case 0 n) c.index_count.ensures ∙ of_all names case))
    c.report_on_case.ensures.output
