use Rattle.std.proofs.Common.{get_or, ltb}
use Rattle.copy_out.proofs.LaneLaws.{from_not_below, no_lane}
use Rattle.copy_out.proofs.lanes.low_lanes.Goals as goal

pub returns : goal.returns
returns c e k lt = from_not_below (get_or c.args.v k 0) 14 (no_lane ltb c.args.v 14 c.fits-v.0 e k lt)
