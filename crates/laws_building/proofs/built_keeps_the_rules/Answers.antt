use Rattle.laws_building.proofs.Image.{searchable, sound_pages}
use Rattle.laws_building.proofs.built_keeps_the_rules.Goals as goal

pub returns : goal.returns
returns g c = record {
  sound_pages = λ o k cut leaves es x given same. sound_pages o k cut x leaves es given same;
  rules = λ o k cut leaves es x given same.
      c.rules_are_exact.ensures.kept o x given.order.under_chained (searchable o k cut x leaves es given same);
}
