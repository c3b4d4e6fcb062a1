use Rattle.laws_back_search.proofs.Steps.{goes_back}
use Rattle.laws_back_search.proofs.Whole.{finds_reverse, mirrors_answers}
use Rattle.laws_back_search.proofs.back_search_finds.Goals as goal

pub returns : goal.returns
returns g c = record {
  reverse = λ o x laws quiet. finds_reverse o x laws quiet;
  mirrors = λ o x laws quiet. mirrors_answers o x laws quiet;
  steps = λ o x laws quiet. goes_back o x laws quiet;
}
