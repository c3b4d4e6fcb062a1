use Rattle.std.proofs.Common.{◌∙◌, ap, arith, get_or, length, map, sym, take}
use Rattle.std.proofs.lemmas.List.{length-map}
use Rattle.key_orders.specs.declared.columns.ColType.TheVariants as ColType
use Rattle.key_orders.specs.declared.columns.Value.{Value}
use Rattle.key_orders.specs.declared.columns.Value.TheVariants.{Null}
use Rattle.key_orders.specs.Values.{value_shown}
use Rattle.page_write.specs.Bodies.{with_value, with_values}
use Rattle.page_write.proofs.BodyLaws.{shown_at, shown_below, values_next, values_none}
use Rattle.page_write.proofs.lengths.values_end.Goals as goal

pub loop-k-init : goal.loop-k-init
loop-k-init c = (λ body is. ap length (values_none body) ∙ is, omega arith)

pub loop-k-preserved : goal.loop-k-preserved
loop-k-preserved c =
    let types = c.args.types.now in
    let refs = c.args.values.now in
    let k = c.loop-k.k in
    let is = shown_at refs k c.loop-k-test.true in
    let many = length-map refs value_shown in (
      λ body e.
          ap length (values_next types (map value_shown refs) k ColType.Bool Null body (omega (arith, many, c.requires.count)) (shown_below refs k c.loop-k-test.true))
          ∙ ap (λ (v : Value). length (with_value (get_or types k ColType.Bool) v (with_values (take k types) (take k (map value_shown refs)) body))) (sym is)
          ∙ c.value_end-end.ensures.is (with_values (take k types) (take k (map value_shown refs)) body) (c.loop-k.invariant.0 body e),
      omega (arith, c.loop-k.invariant.1, c.value_end-end.ensures.few),
    )
