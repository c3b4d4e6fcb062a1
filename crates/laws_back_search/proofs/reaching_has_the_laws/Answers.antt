use Rattle.laws_back_search.proofs.Reach.{none_right, reaches_of_lower}
use Rattle.laws_back_search.proofs.reaching_has_the_laws.Goals as goal

pub returns : goal.returns
returns g c = record {
  none_right = λ cs ts laws tids high s e out above. none_right cs laws ts high s e out above;
  lower = λ cs ts laws tids high s t below reaches. reaches_of_lower cs laws ts high s t below reaches;
}
