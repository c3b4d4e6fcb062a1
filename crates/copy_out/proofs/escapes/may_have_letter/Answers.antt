use Rattle.std.proofs.Common.{arith}
use Rattle.std.proofs.lemmas.Bool.Decides.{nat_tests}
use Rattle.copy_out.specs.Escapes.{letter_of}
use Rattle.copy_out.proofs.escapes.may_have_letter.Goals as goal

pub returns-then-b-ge8 : goal.returns-then-b-ge8
unfolding letter_of
returns-then-b-ge8 c e = grind (arith, nat_tests)

pub returns-else-b-ge8 : goal.returns-else-b-ge8
unfolding letter_of
returns-else-b-ge8 c e = grind (arith, nat_tests)
