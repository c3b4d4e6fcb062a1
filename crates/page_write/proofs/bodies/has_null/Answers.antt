use Rattle.std.proofs.Common.{◌∙◌, ap, sym, map}
use Rattle.std.proofs.lemmas.Bool.{cond-false, cond-true}
use Rattle.key_orders.specs.declared.columns.Value.TheVariants.{Null}
use Rattle.key_orders.specs.Values.{value_shown}
use Rattle.page_write.specs.Bodies.{is_null}
use Rattle.page_write.proofs.BodyLaws.{null_next, shown_at, shown_below}
use Rattle.page_write.proofs.bodies.has_null.Goals as goal

pub returns-then-is_null : goal.returns-then-is_null
returns-then-is_null c =
    let refs = c.args.values.now in
    let k = c.loop-value.value-index in
    let here = ap is_null (sym (shown_at refs k c.loop-value-test.true)) ∙ sym c.is_null.ensures ∙ c.if-is_null.true in
    sym (sym c.loop-value.invariant
    ∙ (null_next (map value_shown refs) k Null (shown_below refs k c.loop-value-test.true) ∙ cond-true _ _ _ here))

pub loop-value-preserved : goal.loop-value-preserved
loop-value-preserved c =
    let refs = c.args.values.now in
    let k = c.loop-value.value-index in
    let not_here = ap is_null (sym (shown_at refs k c.loop-value-test.true)) ∙ sym c.is_null.ensures ∙ c.if-is_null.false in
    sym (null_next (map value_shown refs) k Null (shown_below refs k c.loop-value-test.true) ∙ cond-false _ _ _ not_here)
    ∙ c.loop-value.invariant
