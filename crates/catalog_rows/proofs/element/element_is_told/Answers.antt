use Rattle.catalog_rows.proofs.ElementLaws.{element_law}
use Rattle.catalog_rows.proofs.element.element_is_told.Goals as goal

pub returns : goal.returns
returns c = element_law
