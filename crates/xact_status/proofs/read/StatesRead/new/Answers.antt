use Rattle.std.proofs.lemmas.List.Elements.{All-nil}
use Rattle.xact_status.specs.Pieces.{AreTrue, PlaceIsTrue}
use Rattle.xact_status.proofs.read.StatesRead.new.Goals as goal

pub returns : goal.returns
unfolding AreTrue
returns c = record { says_true = λ names. rw c.new-2.ensures.items (All-nil (PlaceIsTrue names _)) }
