use Rattle.bt_level_step.proofs.Carried.{start, role, step, verdict}
use Rattle.bt_level_step.proofs.walks_carry_the_same.Goals as goal

pub returns : goal.returns
returns g c = record {
  start = λ ds. start ds;
  role = λ x w c page k marks. role x w c page k marks;
  step = λ same o x w c page k sees. step same o x w c page k sees;
  verdict = λ x w c entry is_fast k. verdict x w c entry is_fast k;
}
