use Rattle.std.proofs.Common.{arith}
use Rattle.std.proofs.lemmas.Bool.{OnTrue_at}
use Rattle.std.proofs.lemmas.List.Elements.{All-more}
use Rattle.key_orders.specs.declared.columns.ValueRef.TheVariants.{Null}
use Rattle.key_orders.specs.Values.{value_shown}
use Rattle.page_write.specs.Bodies.{IsShortEnough}
use Rattle.bt_build.proofs.entries.are_short.Goals as goal

pub loop-i-preserved : goal.loop-i-preserved
loop-i-preserved c =
    All-more (λ v. IsShortEnough (value_shown v)) c.args.values.now c.loop-i.i Null (omega arith) c.loop-i.invariant (OnTrue_at c.if-not-is_short.false c.is_short.ensures)
