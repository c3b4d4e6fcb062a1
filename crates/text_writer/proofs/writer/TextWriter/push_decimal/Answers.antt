use Rattle.std.proofs.Common.{arith}
use Rattle.std.proofs.lemmas.Fmt.{length-decimal-le}
use Rattle.text_writer.proofs.writer.TextWriter.push_decimal.Goals as goal

pub put_digits-requires : goal.put_digits-requires
put_digits-requires c = omega (arith, c.in_ok-make_room.ensures.room, length-decimal-le 20 c.args.n (omega arith) (omega arith) (omega arith))
