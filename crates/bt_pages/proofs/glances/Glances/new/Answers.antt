use Rattle.bt_pages.specs.Seen.{AreOf}
use Rattle.bt_pages.proofs.glances.Glances.new.Goals as goal

pub returns : goal.returns
unfolding AreOf
returns c block = c.loop.invariant.none block
