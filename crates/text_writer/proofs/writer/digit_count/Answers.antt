use Rattle.std.proofs.Common.{arith}
use Rattle.std.proofs.lemmas.Fmt.{length-decimal-le}
use Rattle.itoa.proofs.Decimal.{length_four}
use Rattle.text_writer.proofs.writer.digit_count.Goals as goal

pub overflow_add-count : goal.overflow_add-count
overflow_add-count c =
    let four = length_four c.loop-left.left (omega arith) (omega arith) in
    let few = length-decimal-le 20 c.args.n (omega arith) (omega arith) (omega arith) in
    omega (arith, four, few, c.loop-left.invariant)

pub loop-left-preserved : goal.loop-left-preserved
loop-left-preserved c =
    let four = length_four c.loop-left.left (omega arith) (omega arith) in
    omega (arith, four, c.loop-left.invariant)

pub overflow_add-result : goal.overflow_add-result
overflow_add-result c =
    let few = length-decimal-le 20 c.args.n (omega arith) (omega arith) (omega arith) in
    omega (arith, few, c.loop-left.invariant, c.short_count.ensures)
