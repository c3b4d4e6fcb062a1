use Rattle.std.proofs.Common.{arith}
use Rattle.std.proofs.lemmas.Bool.{eq-eqb, ne_eqb}
use Rattle.cluster_control.proofs.Division.{shift_even, shift_odd}
use Rattle.cluster_control.proofs.crc.shift.Goals as goal

pub returns-then-register-eq1 : goal.returns-then-register-eq1
returns-then-register-eq1 c = shift_odd c.args.register (omega arith) (eq-eqb _ _ c.if-register-eq1.true)

pub returns-else-register-eq1 : goal.returns-else-register-eq1
returns-else-register-eq1 c = shift_even c.args.register (omega arith) (ne_eqb _ _ c.if-register-eq1.false)
