use Rattle.laws_building.proofs.Items.{joined_as_built, pages_have_entries}
use Rattle.laws_building.proofs.built_of_items.Goals as goal

pub returns : goal.returns
returns g c = record {
  seen = λ k cut pages x filled same. joined_as_built k cut pages x filled same;
  filled = λ size budget items each. pages_have_entries size budget items each;
}
