use Rattle.case_rules.specs.Spots.{key_spots}
use Rattle.case_rules.proofs.Walk.{next_step}
use Rattle.case_rules.proofs.spots.add_index_keys.Goals as goal

pub loop-j-preserved : goal.loop-j-preserved
loop-j-preserved c = next_step (key_spots c.args.k) c.loop-j.j c.args.keys.now c.index-keys-j.result _ _ _ c.loop-j-test.true c.index-keys-j.is c.loop-j.invariant c.in_ok-add_index_key.ensures
