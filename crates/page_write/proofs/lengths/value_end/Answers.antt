use Rattle.std.proofs.Common.{arith}
use Rattle.key_orders.specs.Values.{value_shown}
use Rattle.page_write.proofs.LengthLaws.{value_long}
use Rattle.page_write.proofs.lengths.value_end.Goals as goal

pub returns-clause-is : goal.returns-clause-is
returns-clause-is c = λ body is.
    let long = value_long c.args.ctype (value_shown c.args.value) body c.args.place is in
    omega (arith, long, c.padding_before.ensures, c.stored_length.ensures.is)
