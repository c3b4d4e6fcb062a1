use Rattle.std.proofs.Common.{arith}
use Rattle.text_writer.proofs.Writing.{part_behind}
use Rattle.text_writer.proofs.writer.Waiting.put_slice.Goals as goal

pub returns-clause-bytes : goal.returns-clause-bytes
returns-clause-bytes c = part_behind c.args.self.now.used _ c.args.self.now.bytes c.args.bytes.now _ _ c.copy_from_slice.ensures.after (omega arith) (omega arith)
