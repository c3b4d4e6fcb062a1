use Rattle.std.proofs.Common.{arith, false, length, true}
use Rattle.std.proofs.lemmas.Bool.{le-leb, lt-leb}
use Rattle.page_write.proofs.LengthLaws.{varlena_long}
use Rattle.page_write.proofs.lengths.varlena_length.Goals as goal

pub returns-then-bytes-le-SHORT_MAX-clause-is : goal.returns-then-bytes-le-SHORT_MAX-clause-is
returns-then-bytes-le-SHORT_MAX-clause-is c =
    let bytes = c.args.bytes.now in
    let long = varlena_long bytes true (le-leb (length bytes) 126 (omega (arith, c.if-bytes-le-SHORT_MAX.true))) in
    omega (arith, long)

pub returns-else-bytes-le-SHORT_MAX-clause-is : goal.returns-else-bytes-le-SHORT_MAX-clause-is
returns-else-bytes-le-SHORT_MAX-clause-is c =
    let bytes = c.args.bytes.now in
    let long = varlena_long bytes false (lt-leb (length bytes) 126 (omega (arith, c.if-bytes-le-SHORT_MAX.false))) in
    omega (arith, long)
