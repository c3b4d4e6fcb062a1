use Rattle.std.proofs.Common.{◌%◌}
use Rattle.std.specs.Prelude.{Some}
use Rattle.std.proofs.lemmas.List.Elements.{All-set}
use Rattle.rel_files.specs.Slru.{dir_of}
use Rattle.multi_members.specs.Answers.{AreTrue, PlaceIsTrue}
use Rattle.multi_members.proofs.answers.Answers.keep.Goals as goal

pub returns-then-place-len : goal.returns-then-place-len
unfolding AreTrue
returns-then-place-len c names held says =
    let self = c.args.self.now in
    All-set (PlaceIsTrue names (dir_of self.offsets) (dir_of self.members) self.cluster) self.places.items (c.args.multi % 256)
    (Some record { multi = c.args.multi; state = c.args.state }) says held
