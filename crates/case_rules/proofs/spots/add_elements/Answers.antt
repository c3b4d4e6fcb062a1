use Rattle.case_rules.specs.Spots.{element_spots}
use Rattle.case_rules.proofs.Walk.{next_step}
use Rattle.case_rules.proofs.spots.add_elements.Goals as goal

pub loop-j-preserved : goal.loop-j-preserved
loop-j-preserved c = next_step (element_spots c.args.place c.args.key) c.loop-j.j c.args.values.now c.index-values-j.result _ _ _ c.loop-j-test.true c.index-values-j.is c.loop-j.invariant c.in_ok-add.ensures
