use Rattle.std.proofs.Common.{◌%◌}
use Rattle.std.specs.Prelude.{Some}
use Rattle.std.proofs.lemmas.List.Elements.{All-set}
use Rattle.bt_pages.specs.Seen.{AreOf, PlaceIsOf}
use Rattle.bt_pages.proofs.glances.Glances.keep.Goals as goal

pub returns-then-place-len : goal.returns-then-place-len
unfolding AreOf
returns-then-place-len c block held says =
    All-set (PlaceIsOf block) c.args.self.now.places.items (c.args.b % 16384) (Some record { b = c.args.b; glance = c.args.glance }) says held
