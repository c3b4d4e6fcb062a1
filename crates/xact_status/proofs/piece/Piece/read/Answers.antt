use Rattle.std.proofs.Common.{arith}
use Rattle.xact_status.specs.Pieces.{IsPieceOf}
use Rattle.xact_status.proofs.piece.Piece.read.Goals as goal

pub returns-clause-told : goal.returns-clause-told
unfolding IsPieceOf
returns-clause-told g c names told k below = c.in_ok-held.ensures.bytes names told k (omega (arith, below, c.bytes.auto.out))
