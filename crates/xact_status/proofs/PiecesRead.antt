-- The byte of a transaction in a piece that was read.
use Rattle.std.proofs.Common.{◌≡◌, ℕ, ◌*◌, ◌/◌, ◌%◌, ◌+◌, ◌<◌, ◌≤◌, List, length, take, get_or, ap, ◌∙◌, arith}
use Rattle.std.specs.Prelude.{Some, None}
use Rattle.std.specs.List.{slice_get}
use Rattle.std.proofs.lemmas.Option.{slice_get-get_or, slice_get_past}
use Rattle.std.proofs.lemmas.List.{get_or-take, length-take}
use Rattle.outside.specs.Outside.{Names}
use Rattle.rel_files.specs.Bytes.{slru_byte}
use Rattle.xact_status.specs.declared.piece.Piece.{Piece}
use Rattle.xact_status.specs.Status.{status_byte}
use Rattle.xact_status.specs.Pieces.{IsPieceOf}

-- it is one of the bytes of its piece
pub byte_read : (names : Names) (folder : List ℕ) (piece : Piece) (xid : ℕ) → IsPieceOf names folder piece → piece.number ≡ xid / 256
    → status_byte names folder xid ≡ slice_get (take piece.held piece.bytes) (xid % 256 / 4)
unfolding IsPieceOf
byte_read names folder piece xid holds here =
    let page : xid / 32768 ≡ piece.number / 128 = omega (arith, here) in
    let place : xid % 32768 / 4 ≡ piece.number % 128 * 64 + xid % 256 / 4 = omega (arith, here) in
    (λ i. slru_byte names folder (page i) (place i)) ∙ holds (xid % 256 / 4) (omega arith)

-- the first bytes of a list
pub held_byte : (bytes : List ℕ) (held at : ℕ) → at < held → at < length bytes → slice_get (take held bytes) at ≡ Some (get_or bytes at 0)
held_byte bytes held at lt within =
    slice_get-get_or (take held bytes) at 0 (omega (arith, length-take held bytes)) ∙ ap Some (get_or-take held bytes at 0 lt)

pub no_byte : (bytes : List ℕ) (held at : ℕ) → held ≤ at → slice_get (take held bytes) at ≡ None
no_byte bytes held at le = slice_get_past (take held bytes) at (omega (arith, length-take held bytes))
