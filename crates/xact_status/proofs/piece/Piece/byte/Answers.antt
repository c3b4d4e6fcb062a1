use Rattle.std.proofs.Common.{◌/◌, ◌%◌, ◌∙◌, sym, arith}
use Rattle.xact_status.proofs.PiecesRead.{byte_read, held_byte, no_byte}
use Rattle.xact_status.proofs.piece.Piece.byte.Goals as goal

pub returns-then-self-place : goal.returns-then-self-place
returns-then-self-place c names folder is =
    let piece = c.args.self.now in
    sym (byte_read names folder piece c.args.xid is c.requires ∙ no_byte piece.bytes piece.held (c.args.xid % 256 / 4) (omega (arith, c.if-self-place.true)))

pub returns : goal.returns
returns c names folder is =
    let piece = c.args.self.now in
    sym (byte_read names folder piece c.args.xid is c.requires
    ∙ held_byte piece.bytes piece.held (c.args.xid % 256 / 4) (omega (arith, c.if-self-place.false)) (omega (arith, c.type_inv.self)))
