use Rattle.std.proofs.Common.{refl}
use Rattle.laws_levels.proofs.Cursors.{turn, done, below_read, next_read}
use Rattle.laws_levels.proofs.downlinks_are_read.Goals as goal

pub returns : goal.returns
returns g c = record {
  below = λ same o x local ne h m n sum none. below_read same o x local ne h m n sum none;
  read = λ same o x local ne h m n sum none dead above. next_read same o x local ne h m n sum none dead above;
  begin = λ x dead ds. refl;
  turn = λ x dead n lower b ne. turn x dead n lower b ne;
  done = λ x dead n lower. done x dead n lower;
}
