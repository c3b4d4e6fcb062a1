use Rattle.std.proofs.Common.{◌∙◌, sym, arith, get_or, map, List, ℕ}
use Rattle.std.proofs.lemmas.List.{length-map}
use Rattle.key_orders.specs.declared.columns.ColType.TheVariants as ColType
use Rattle.key_orders.specs.declared.columns.Value.TheVariants.{Null}
use Rattle.key_orders.specs.Values.{value_shown}
use Rattle.page_write.specs.Bodies.{with_value}
use Rattle.page_write.proofs.BodyLaws.{shown_at, shown_below, values_next, values_none}
use Rattle.page_write.proofs.bodies.push_values.Goals as goal

pub loop-k-init : goal.loop-k-init
loop-k-init c = sym (values_none c.args.out.now.items)

pub loop-k-preserved : goal.loop-k-preserved
loop-k-preserved c =
    let types = c.args.types.now in
    let refs = c.args.values.now in
    let k = c.loop-k.k in
    let is = shown_at refs k c.loop-k-test.true in
    let old : List ℕ = c.args.out.now.items in
    let many = length-map refs value_shown in
    c.in_ok-push_value.ensures
    ∙ (λ i. with_value (get_or types k ColType.Bool) (is i) (c.loop-k.invariant i))
    ∙ sym (values_next types (map value_shown refs) k ColType.Bool Null old (omega (arith, many, c.requires.count)) (shown_below refs k c.loop-k-test.true))
