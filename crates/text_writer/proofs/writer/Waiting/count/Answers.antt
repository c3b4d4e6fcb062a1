use Rattle.std.proofs.Common.{sym, arith, length-take-le}
use Rattle.text_writer.proofs.writer.Waiting.count.Goals as goal

pub returns : goal.returns
returns c = sym (length-take-le c.args.self.now.used c.args.self.now.bytes (omega arith))
