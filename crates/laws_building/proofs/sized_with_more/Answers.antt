use Rattle.laws_building.proofs.Sized.{sized_by_cut, sized_by_given}
use Rattle.laws_building.proofs.sized_with_more.Goals as goal

pub returns : goal.returns
returns g c = record {
  given = λ f o k z items es sized. sized_by_given f o k z items es sized;
  whole = λ f o k z items es sized. sized_by_cut f o k z items es sized;
}
