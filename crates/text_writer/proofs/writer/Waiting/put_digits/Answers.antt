use Rattle.std.proofs.Common.{arith}
use Rattle.std.specs.Fmt.{decimal}
use Rattle.text_writer.proofs.Writing.{put_behind}
use Rattle.text_writer.proofs.writer.Waiting.put_digits.Goals as goal

pub returns-clause-bytes : goal.returns-clause-bytes
returns-clause-bytes c =
    let w = c.write_digits-start in
    put_behind c.args.self.now.bytes _ (decimal c.args.n) _ c.args.self.now.used w.result _ (omega (arith, w.ensures.start)) (omega arith) w.ensures.before w.ensures.written
