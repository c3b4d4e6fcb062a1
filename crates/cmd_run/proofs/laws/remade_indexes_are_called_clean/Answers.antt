use Rattle.std.proofs.Common.{◌∙◌, ◌++◌, ap}
use Rattle.reports.specs.Lists.{Lists}
use Rattle.bt_levels.proofs.LevelLaws.{empty_quiet, quiet_empty}
use Rattle.heap_table_check.specs.Found.{case_found}
use Rattle.cmd_run.specs.Index.{index_found}
use Rattle.cmd_run.proofs.NumberedLaws.{both_quiet, quiet_from}
use Rattle.cmd_run.proofs.laws.remade_indexes_are_called_clean.Goals as goal

pub returns : goal.returns
returns c case names n is unique =
    let clean = c.remade_indexes_are_clean.ensures case names n is in
    let table = quiet_empty (case_found case names) (quiet_from case names is.quiet) in
    let same = both_quiet case names n is.quiet clean.alone in
    let beside = clean.clean unique in
    empty_quiet (index_found case names n) (record {
      findings = λ i. table.findings i ++ (clean.alone.findings i ++ (ap (λ (l : Lists). l.findings) same ∙ beside.findings) i);
      unjudged = λ i. table.unjudged i ++ (clean.alone.unjudged i ++ (ap (λ (l : Lists). l.unjudged) same ∙ beside.unjudged) i);
    })
