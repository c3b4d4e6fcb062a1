use Rattle.std.proofs.Common.{◌∙◌, ap, arith, Some}
use Rattle.key_orders.specs.declared.Tid.{Tid}
use Rattle.bt_build.specs.Outcome.{lower_tid}
use Rattle.bt_build.proofs.LargeLaws.{large_here, large_later, one_before}
use Rattle.bt_build.proofs.source.large_tid.Goals as goal

pub loop-left-preserved-then-is_too_long : goal.loop-left-preserved-then-is_too_long
loop-left-preserved-then-is_too_long c =
    let left = c.loop-left.left in
    let next = one_before c.args.places.now left _ (omega arith) c.loop-left.invariant.0 in (
      omega (arith, c.loop-left.invariant.0),
      ap Some (c.lower_tid.ensures ∙ ap (λ (t : Tid). lower_tid t c.loop-left.lowest) c.tid.ensures)
          ∙ large_here c.args.places.now left _ next c.is_too_long.result c.is_too_long.ensures c.loop-left.lowest c.loop-left.invariant.1 c.if-is_too_long.true,
    )

pub loop-left-preserved : goal.loop-left-preserved
loop-left-preserved c =
    let left = c.loop-left.left in
    let next = one_before c.args.places.now left _ (omega arith) c.loop-left.invariant.0 in (
      omega (arith, c.loop-left.invariant.0),
      large_later c.args.places.now left _ next c.is_too_long.result c.is_too_long.ensures c.loop-left.lowest c.loop-left.invariant.1 c.if-is_too_long.false,
    )
