use Rattle.std.proofs.Common.{◌∙◌, ap}
use Rattle.std.specs.Int.{from_be_bytes, w64}
use Rattle.key_orders.proofs.Leading.{first_chunk_number}
use Rattle.key_orders.proofs.eight.eight_number.Goals as goal

pub returns-in-Some-clause-number : goal.returns-in-Some-clause-number
returns-in-Some-clause-number c =
    c.from_be_bytes.ensures ∙ ap (from_be_bytes w64) c.in-Some.ensures.cases.same ∙ first_chunk_number c.args.bytes.now c.in-Some.ensures.cases.enough
