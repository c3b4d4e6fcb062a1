use Rattle.laws_building.proofs.Image.{searchable, fresh, entries, finds_among}
use Rattle.laws_building.proofs.Rise.{has_levels}
use Rattle.laws_building.proofs.built_is_searchable.Goals as goal

pub returns : goal.returns
returns g c = record {
  searchable = λ o k cut leaves es x given same. searchable o k cut x leaves es given same;
  fresh = λ o k cut leaves es x given same. fresh o k cut x leaves es given same;
  entries = λ o k cut leaves es x given same. entries o k cut x leaves es given same;
  levels = λ o k cut leaves es given. has_levels o k cut leaves es given;
  search = λ o k cut leaves es x given same. finds_among o k cut x leaves es given same;
}
