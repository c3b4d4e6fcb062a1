use Rattle.laws_levels.proofs.Descent.{before_first, found_here, before_next, after_last}
use Rattle.laws_levels.proofs.levels_are_judged.Goals as goal

pub returns : goal.returns
returns g c = record {
  begin = λ same o x ne dead stands none_dead none_stands. before_first same o x ne dead stands none_dead none_stands;
  found = λ same o x dead stands m n f before is. found_here same o x dead stands m n f before is;
  next = λ same o x local ne roots dead stands dead_then stands_then m n before nothing passed. before_next same o x local ne roots dead stands dead_then stands_then m n before nothing passed;
  last = λ same o x dead stands dead_then stands_then n before nothing passed. after_last same o x dead stands dead_then stands_then n before nothing passed;
}
