use Rattle.std.proofs.Common.{◌%◌, sym, subst, List, ℕ}
use Rattle.std.specs.Prelude.{Some}
use Rattle.std.proofs.lemmas.List.Elements.{All-set}
use Rattle.rel_files.specs.Slru.{dir_of}
use Rattle.xact_status.specs.Pieces.{AreTrue, IsPieceOf, PlaceIsTrue}
use Rattle.xact_status.proofs.read.StatesRead.keep.Goals as goal

pub returns-then-place-len-clause-says_true : goal.returns-then-place-len-clause-says_true
unfolding AreTrue
returns-then-place-len-clause-says_true c names is are =
    let self = c.make_places.new.self in
    let P : List ℕ → Type 0 = λ folder. IsPieceOf names folder c.args.piece in
    All-set (PlaceIsTrue names (dir_of self.xact)) self.places.items (c.args.piece.number % 1024) (Some c.args.piece)
    (subst P (sym c.make_places.ensures.folder) is) (c.make_places.ensures.says_true names are)
