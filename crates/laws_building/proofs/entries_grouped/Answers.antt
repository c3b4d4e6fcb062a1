use Rattle.laws_building.proofs.Groups.{is_grouped}
use Rattle.laws_building.proofs.entries_grouped.Goals as goal

pub returns : goal.returns
returns g c = λ grouping es. is_grouped grouping es
