use Rattle.std.proofs.Common.{length, ap, arith, length-append}
use Rattle.text_writer.specs.Writer.{bytes_of}
use Rattle.text_writer.proofs.writer.TextWriter.len.Goals as goal

pub returns : goal.returns
returns c =
    let w = c.self.inside in
    omega (arith, c.len.ensures, c.count.ensures, w.text.ok.0, ap length c.self.view_is, length-append w.text.items (bytes_of w.waiting))
