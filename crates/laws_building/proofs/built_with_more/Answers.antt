use Rattle.laws_building.proofs.Image.{entries}
use Rattle.laws_building.proofs.Mapped.{given_back, mapped_as_built}
use Rattle.laws_building.specs.Seen.{order_by, splitter_by}
use Rattle.laws_building.proofs.built_with_more.Goals as goal

pub returns : goal.returns
returns g c = record {
  seen = λ f k cut leaves x same. mapped_as_built f k cut leaves x same;
  given = λ f o k cut leaves es given whole. given_back f o k cut leaves es given whole;
  entries = λ f o k cut leaves es x given whole same. entries (order_by f o) (splitter_by f k) cut x leaves es (given_back f o k cut leaves es given whole) same;
}
