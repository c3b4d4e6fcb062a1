use Rattle.bt_pages.proofs.BlockLaws.{block-certain, block-complete, block-doubted, block-doubts, block-listed, block-sound}
use Rattle.bt_pages.proofs.KeptLaws.{block-kept}
use Rattle.bt_pages.proofs.laws.blocks_are_judged.Goals as goal

pub returns-clause-sound : goal.returns-clause-sound
returns-clause-sound c tree b = block-sound tree b

pub returns-clause-doubts : goal.returns-clause-doubts
returns-clause-doubts c tree b = block-doubts tree b

pub returns-clause-listed : goal.returns-clause-listed
returns-clause-listed c tree b = block-listed tree b

pub returns-clause-doubted : goal.returns-clause-doubted
returns-clause-doubted c tree b = block-doubted tree b

pub returns-clause-complete : goal.returns-clause-complete
returns-clause-complete c tree b = block-complete tree b

pub returns-clause-certain : goal.returns-clause-certain
returns-clause-certain c tree b = block-certain tree b

pub returns-clause-kept : goal.returns-clause-kept
returns-clause-kept c tree b empty used = block-kept tree b empty used
