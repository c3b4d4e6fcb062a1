-- What was read of pg_xact.
use Rattle.std.specs.Prelude.{ℕ, ◌*◌, ◌/◌, ◌%◌, List, take, Option, Some, None, All, IfSome}
use Rattle.std.specs.Coded.{Coded-set, Unit-prop, coded_option, coded_ℕ, Π_prop}
use Rattle.outside.specs.Outside.{Names}
use Rattle.rel_files.specs.Bytes.{HoldsBytes}
use Rattle.rel_files.specs.Slru.{dir_of}
use Rattle.xact_status.specs.declared.piece.Piece.{Piece}
use Rattle.xact_status.specs.declared.read.StatesRead.{StatesRead}

-- a piece has the bytes that these names hold at its place: a page has 128 pieces of 64 bytes
unfoldable pub IsPieceOf : Names → List ℕ → Piece → Type 0
IsPieceOf names folder piece =
    HoldsBytes names folder (piece.number / 128) (piece.number % 128 * 64) 64 (take piece.held piece.bytes)

-- the same of a place, where it has a piece
abbrev pub PlaceIsTrue : Names → List ℕ → Option Piece → Type 0
PlaceIsTrue names folder place = IfSome place (IsPieceOf names folder)

-- so has each that was read
unfoldable pub AreTrue : Names → StatesRead → Type 0
AreTrue names read = All (PlaceIsTrue names (dir_of read.xact)) read.places.items

-- each of these facts has one proof at most
IsPieceOf-prop : (names : Names) (folder : List ℕ) (piece : Piece) → IsProp (IsPieceOf names folder piece)
unfolding IsPieceOf
IsPieceOf-prop names folder piece = Π_prop (λ k. Π_prop (λ below. Coded-set (coded_option coded_ℕ) _ _))

PlaceIsTrue-prop : (names : Names) (folder : List ℕ) (place : Option Piece) → IsProp (PlaceIsTrue names folder place)
PlaceIsTrue-prop names folder None = Unit-prop
PlaceIsTrue-prop names folder (Some piece) = IsPieceOf-prop names folder piece

pub AreTrue-prop : (names : Names) (read : StatesRead) → IsProp (AreTrue names read)
unfolding AreTrue
AreTrue-prop names read =
    let each = PlaceIsTrue-prop names (dir_of read.xact) in
    Π_prop (λ at. Π_prop (λ other. Π_prop (λ below. each _)))
