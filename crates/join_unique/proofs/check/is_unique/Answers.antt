use Rattle.std.proofs.Common.{arith}
use Rattle.join_unique.proofs.check.is_unique.Goals as goal

pub unique_of-requires : goal.unique_of-requires
unique_of-requires c =
    let index = c.requires.belong.index in
    (omega (arith, index.belongs.first, c.index.ensures, index.number), omega (arith, index.belongs.last, c.index.ensures, index.number))
