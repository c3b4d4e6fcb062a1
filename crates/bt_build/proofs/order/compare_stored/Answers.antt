use Rattle.std.proofs.Common.{◌∙◌, ◌+◌, ◌-◌, sym, arith, length}
use Rattle.laws_search.specs.Keys.{compare_values}
use Rattle.key_orders.specs.Keys.{columns_of}
use Rattle.key_storage.specs.Stored.{values_read}
use Rattle.bt_build.proofs.OrderLaws.{next_column, none_left, then_eq, then_ne}
use Rattle.bt_build.proofs.order.compare_stored.Goals as goal

pub returns-then-is_ne : goal.returns-then-is_ne
returns-then-is_ne c =
    let specs = c.args.specs.now in
    let step = next_column specs c.loop-i.i _ c.loop-i.left.now c.loop-i.right.now _ _ c.compare_in_column-found.result c.loop-i-test.true c.compare_in_column-found.ensures c.read_value.ensures.value c.read_value-in-loop-i.ensures.value in
    sym (sym c.loop-i.invariant ∙ step ∙ then_ne c.compare_in_column-found.result _ (sym c.is_ne.ensures ∙ c.if-is_ne.true))

pub loop-i-preserved : goal.loop-i-preserved
loop-i-preserved c =
    let specs = c.args.specs.now in
    let n = length specs in
    let i = c.loop-i.i in
    let step = next_column specs i _ c.loop-i.left.now c.loop-i.right.now _ _ c.compare_in_column-found.result c.loop-i-test.true c.compare_in_column-found.ensures c.read_value.ensures.value c.read_value-in-loop-i.ensures.value in
    (λ j. compare_values (columns_of specs) (i + 1) (values_read (n - (i + 1)) (c.read_value.ensures.rest j)) (values_read (n - (i + 1)) (c.read_value-in-loop-i.ensures.rest j)))
    ∙ sym (step ∙ then_eq c.compare_in_column-found.result _ (sym c.is_ne.ensures ∙ c.if-is_ne.false))
    ∙ c.loop-i.invariant

pub returns : goal.returns
returns c =
    sym (sym c.loop-i.invariant ∙ none_left c.args.specs.now c.loop-i.i c.loop-i.left.now c.loop-i.right.now (omega arith))
