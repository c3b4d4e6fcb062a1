use Rattle.std.proofs.Common.{◌∙◌}
use Rattle.key_orders.proofs.Leading.{halves, first_half}
use Rattle.key_orders.proofs.eight.short_number.Goals as goal

pub returns-in-Some : goal.returns-in-Some
returns-in-Some c =
    let parts = c.in-Some.ensures.cases in
    c.joined.ensures ∙ rw (c.from_be_bytes.ensures, c.four_number.ensures, parts.0, parts.1) (halves c.args.bytes.now)

pub returns-in-None : goal.returns-in-None
returns-in-None c = c.joined-in-None.ensures ∙ rw c.four_number-in-None.ensures (first_half c.args.bytes.now c.in-None.ensures.cases)
