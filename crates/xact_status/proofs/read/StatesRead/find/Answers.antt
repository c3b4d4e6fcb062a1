use Rattle.std.proofs.Common.{◌≡◌, ◌%◌, ◌∙◌, List, get_or, sym, ap, subst}
use Rattle.std.specs.Prelude.{Option, Some, None}
use Rattle.rel_files.specs.Slru.{dir_of}
use Rattle.xact_status.specs.declared.piece.Piece.{Piece}
use Rattle.xact_status.specs.Pieces.{AreTrue, PlaceIsTrue}
use Rattle.xact_status.proofs.read.StatesRead.find.Goals as goal

pub returns-in-Some-Some : goal.returns-in-Some-Some
unfolding AreTrue
returns-in-Some-Some c names are =
    let self = c.args.self.now in
    let place = c.piece_of.result % 1024 in
    let here = c.in-Some-Some.ensures.lookup.3 in
    let lists = c.deref.ensures.value in
    let found : get_or self.places.items place None ≡ Some c.in-Some-Some.piece =
    ap (λ (xs : List (Option Piece)). get_or xs place None) (sym lists) ∙ sym (here.1 None) ∙ c.in-Some-Some.field-0-is in
    let P : Option Piece → Type 0 = PlaceIsTrue names (dir_of self.xact) in
    c.state.ensures names (dir_of self.xact) (subst P found (are place None (rw lists at here.0)))
