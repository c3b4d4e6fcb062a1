use Rattle.std.proofs.Common.{arith}
use Rattle.heap_page_check.proofs.JointRules.{chain_next, chain_none}
use Rattle.heap_page_check.proofs.joint.add_chain_rules.Goals as goal

pub loop-k-init : goal.loop-k-init
loop-k-init c = chain_none _ _

pub loop-k-preserved : goal.loop-k-preserved
loop-k-preserved c =
    chain_next c.args.rel _ _ _ _ _ _ _ _ c.requires.table (omega (arith, c.loop-k-test.true)) c.rule_of.ensures c.loop-k.invariant c.in_ok-add_rule.ensures
