use Rattle.laws_levels.proofs.Steps.{open_chain, entries_used, walk_back_left}
use Rattle.laws_levels.proofs.Circles.{walk_back}
use Rattle.laws_levels.proofs.chains_are_walked.Goals as goal

pub returns : goal.returns
returns g c = record {
  back = λ link b n ne. walk_back link b n ne;
  left = λ o x local b used. walk_back_left o x local b used;
  chain = λ o x local b used stops. open_chain o x local b used stops;
  entries = λ o x local ne h n le. entries_used o x local ne h n le;
}
