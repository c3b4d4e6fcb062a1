use Rattle.liveness.proofs.Told.{doubt_or_rule_is_told, old_is_told, rule_is_told}
use Rattle.liveness.proofs.Truth.{life_truth}
use Rattle.liveness.proofs.Update.{update_truth}
use Rattle.liveness.proofs.life_is_true.Goals as goal

pub returns : goal.returns
returns c = record { life = life_truth; update = update_truth; old = old_is_told; rule = rule_is_told; doubt = doubt_or_rule_is_told }
