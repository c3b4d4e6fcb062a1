use Rattle.std.proofs.Common.{◌∙◌, ap, sym}
use Rattle.std.specs.Prelude.{Some}
use Rattle.std.proofs.lemmas.Result.{IfOk-weaker}
use Rattle.cmd_line.specs.Seen.{form_seen}
use Rattle.cmd_run.proofs.ReindexLaws.{named_remade}
use Rattle.cmd_run.proofs.runs.output_of.Goals as goal

pub returns-in-Reindex-clause-made : goal.returns-in-Reindex-clause-made
returns-in-Reindex-clause-made g c =
    IfOk-weaker c.reindex_output.result _ _
    (λ o is names told file name same e.
    named_remade c.in-Reindex.case.now c.in-Reindex.name.now file name names (is names told e) (sym (ap (λ k. Some (form_seen k)) c.in-Reindex.is) ∙ same))
    c.reindex_output.ensures.made
