use Rattle.std.proofs.Common.{length, ap, arith}
use Rattle.heap_targets.proofs.Blocks.{length_blocks}
use Rattle.heap_targets.proofs.set.RootSet.add_page.Goals as goal

pub add_values-requires-clause-few : goal.add_values-requires-clause-few
add_values-requires-clause-few c =
    let blocks = length_blocks c.self.inside.starts.items c.self.inside.bits.items in
    omega (arith, c.in_ok-begin.ensures.same.count, blocks, ap length c.self.view_is, c.requires.few)
