use Rattle.std.proofs.Common.{◌≡◌, ◌∙◌, ap, sym, arith, false, get_or, map}
use Rattle.std.proofs.lemmas.Bool.{cond-false, cond-true}
use Rattle.key_orders.specs.declared.columns.ColType.TheVariants as ColType
use Rattle.key_orders.specs.declared.columns.Value.TheVariants.{Null}
use Rattle.key_orders.specs.Values.{value_shown}
use Rattle.page_write.specs.Bodies.{is_varwidth}
use Rattle.page_write.proofs.BodyLaws.{shown_at, shown_below, varwidth_next}
use Rattle.page_write.proofs.bodies.has_varwidth.Goals as goal

pub loop-k-preserved : goal.loop-k-preserved
loop-k-preserved c =
    let types = c.args.types.now in
    let refs = c.args.values.now in
    let k = c.loop-k.k in
    let is = shown_at refs k c.loop-k-test.true in
    let not_here : is_varwidth (get_or types k ColType.Bool) (get_or (map value_shown refs) k Null) ≡ false =
    ap (is_varwidth (get_or types k ColType.Bool)) (sym is) ∙ sym c.is_varwidth.ensures ∙ c.if-is_varwidth.false in
    sym (varwidth_next types (map value_shown refs) k ColType.Bool Null (omega (arith, c.requires, c.loop-k-test.true)) (shown_below refs k c.loop-k-test.true) ∙ cond-false _ _ _ not_here)
    ∙ c.loop-k.invariant

pub returns-then-is_varwidth : goal.returns-then-is_varwidth
returns-then-is_varwidth c =
    let types = c.args.types.now in
    let refs = c.args.values.now in
    let k = c.loop-k.k in
    let is = shown_at refs k c.loop-k-test.true in
    let here = ap (is_varwidth (get_or types k ColType.Bool)) (sym is) ∙ sym c.is_varwidth.ensures ∙ c.if-is_varwidth.true in
    sym (sym c.loop-k.invariant
    ∙ (varwidth_next types (map value_shown refs) k ColType.Bool Null (omega (arith, c.requires, c.loop-k-test.true)) (shown_below refs k c.loop-k-test.true) ∙ cond-true _ _ _ here))
