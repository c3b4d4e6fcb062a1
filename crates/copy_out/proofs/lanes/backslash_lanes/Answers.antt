use Rattle.std.proofs.Common.{eqb}
use Rattle.copy_out.proofs.LaneLaws.{no_lane}
use Rattle.copy_out.proofs.lanes.backslash_lanes.Goals as goal

pub returns : goal.returns
returns c e k lt = no_lane eqb c.args.v 92 c.fits-v.0 e k lt
