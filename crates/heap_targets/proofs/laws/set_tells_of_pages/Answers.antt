use Rattle.heap_targets.proofs.Filled.{grows, tells}
use Rattle.heap_targets.proofs.laws.set_tells_of_pages.Goals as goal

pub returns-clause-tells : goal.returns-clause-tells
returns-clause-tells c = tells

pub returns-clause-grows : goal.returns-clause-grows
returns-clause-grows c = grows
