use Rattle.laws_building.proofs.Fill.{filled, only_filled, one_more}
use Rattle.laws_building.proofs.filled_pages.Goals as goal

pub returns : goal.returns
returns g c = record {
  filled = λ first size budget xs small. filled first size budget xs small;
  only = λ first size budget xs pages h. only_filled first size budget xs pages h;
  goes_on = λ first size budget xs x. one_more first size budget xs x;
}
