use Rattle.std.proofs.Common.{length, ap, arith}
use Rattle.heap_targets.proofs.Blocks.{length_blocks}
use Rattle.heap_targets.proofs.set.RootSet.blocks.Goals as goal

pub returns : goal.returns
returns c =
    let starts = c.self.inside.starts in
    let blocks = length_blocks starts.items c.self.inside.bits.items in
    omega (arith, c.saturating_sub.ensures, c.len.ensures, starts.ok.0, blocks, ap length c.self.view_is)
