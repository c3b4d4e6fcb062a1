use Rattle.case_rules.specs.Spots.{index_spots}
use Rattle.case_rules.proofs.Walk.{next_step}
use Rattle.case_rules.proofs.spots.add_indexes.Goals as goal

pub loop-k-preserved : goal.loop-k-preserved
loop-k-preserved c = next_step index_spots c.loop-k.k c.args.indexes.now c.index-indexes-k.result _ _ _ c.loop-k-test.true c.index-indexes-k.is c.loop-k.invariant c.in_ok-add_index.ensures
