use Rattle.case_rules.specs.Spots.{column_spots}
use Rattle.case_rules.proofs.Walk.{next_step}
use Rattle.case_rules.proofs.spots.add_columns.Goals as goal

pub loop-k-preserved : goal.loop-k-preserved
loop-k-preserved c = next_step column_spots c.loop-k.k c.args.columns.now c.index-columns-k.result _ _ _ c.loop-k-test.true c.index-columns-k.is c.loop-k.invariant c.in_ok-add_column.ensures
