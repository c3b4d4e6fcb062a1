use Rattle.std.proofs.Common.{refl}
use Rattle.bt_level_step.proofs.level.LevelWalk.pass.Goals as goal

pub returns : goal.returns
returns c = rw (c.first_of.ensures, c.page_finding.ensures, c.dead_end.ensures, c.is_alone.ensures, c.is_split.ensures, c.leads_to_half_dead.ensures, c.role-role.ensures) refl
