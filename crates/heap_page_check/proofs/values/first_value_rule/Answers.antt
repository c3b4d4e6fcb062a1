use Rattle.std.proofs.Common.{◌∙◌, arith}
use Rattle.heap_page_check.proofs.ValueRules.{no_rule_here, no_rule_left, rule_here}
use Rattle.heap_page_check.proofs.values.first_value_rule.Goals as goal

pub value_rule-requires : goal.value_rule-requires
value_rule-requires c = c.requires c.loop-place.place-index _ (omega (arith, c.loop-place-test.true))

pub loop-place-preserved : goal.loop-place-preserved
loop-place-preserved c =
    no_rule_here c.args.oid c.args.head.now c.args.body.now c.args.places.now c.loop-place.place-index _ (omega (arith, c.loop-place-test.true)) (rw c.in-None.is at c.value_rule.ensures) ∙ c.loop-place.invariant

pub returns-in-Some : goal.returns-in-Some
returns-in-Some c =
    rule_here c.args.oid c.args.head.now c.args.body.now c.args.places.now c.loop-place.place-index _ _ (omega (arith, c.loop-place-test.true)) (rw c.in-Some.is at c.value_rule.ensures) ∙ c.loop-place.invariant

pub returns : goal.returns
returns c = no_rule_left c.args.oid c.args.head.now c.args.body.now c.args.places.now c.loop-place.place-index (omega (arith, c.loop-place-test.false)) ∙ c.loop-place.invariant
