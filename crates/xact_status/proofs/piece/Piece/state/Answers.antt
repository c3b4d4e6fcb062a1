use Rattle.std.proofs.Common.{arith}
use Rattle.std.proofs.lemmas.Grind.{common_steps}
use Rattle.xact_status.specs.Status.{status_of}
use Rattle.xact_status.proofs.piece.Piece.state.Goals as goal

pub returns : goal.returns
unfolding status_of
returns c names folder is =
    let byte = c.byte.ensures names folder is in
    let normal = c.requires.normal in
    grind (arith, common_steps)
