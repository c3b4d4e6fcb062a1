use Rattle.laws_levels.proofs.Steps.{unmet_order}
use Rattle.laws_levels.proofs.Meets.{rows_are_met}
use Rattle.laws_levels.proofs.downlinks_are_met.Goals as goal

pub returns : goal.returns
returns g c = record {
  order = λ o x local b used stops ds. unmet_order o x local b used stops ds;
  roles = λ x linked c ds split lower h. rows_are_met x linked c ds split lower h;
}
