use Rattle.std.proofs.Common.{arith}
use Rattle.std.proofs.lemmas.List.{take_more_set}
use Rattle.text_writer.proofs.writer.Waiting.put.Goals as goal

pub returns-clause-bytes : goal.returns-clause-bytes
returns-clause-bytes c = take_more_set c.args.self.now.bytes c.args.self.now.used c.args.b (omega arith)
