use Rattle.std.proofs.Common.{rules}
use Rattle.std.specs.Prelude.{None}
use Rattle.std.proofs.lemmas.List.Elements.{All-replicate}
use Rattle.xact_status.specs.Pieces.{AreTrue, PlaceIsTrue}
use Rattle.xact_status.proofs.read.StatesRead.make_places.Goals as goal

pub returns-in-Ok-clause-says_true : goal.returns-in-Ok-clause-says_true
unfolding AreTrue
returns-in-Ok-clause-says_true c names are =
    rw (c.in-Ok.ensures.items_if_clones_equal (λ y e. search rules)) (All-replicate (PlaceIsTrue names _) 1024 None tt)
