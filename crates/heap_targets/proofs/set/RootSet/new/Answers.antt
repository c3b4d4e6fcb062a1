use Rattle.heap_targets.proofs.Blocks.{no_blocks, packed_empty}
use Rattle.heap_targets.proofs.set.RootSet.new.Goals as goal

pub invariant_of-result : goal.invariant_of-result
invariant_of-result c = packed_empty c.new.result.items c.new-2.result.items c.new.ensures.items c.new-2.ensures.items

pub returns : goal.returns
returns c = no_blocks c.new.result.items c.new-2.result.items c.new.ensures.items
