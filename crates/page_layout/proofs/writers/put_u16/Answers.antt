use Rattle.std.proofs.Common.{◌∙◌, ap, arith}
use Rattle.page_layout.specs.Page.{u16_at}
use Rattle.page_layout.specs.Writes.{u16_bytes}
use Rattle.page_layout.proofs.Writing.{write_from, reads_u16}
use Rattle.page_layout.proofs.writers.put_u16.Goals as goal

pub returns-clause-bytes : goal.returns-clause-bytes
unfolding u16_bytes
returns-clause-bytes c = write_from c.args.at c.args.bytes.now (u16_bytes c.args.number) c.write_u16.new.buf c.requires c.write_u16.ensures

pub returns-clause-reads_back : goal.returns-clause-reads_back
returns-clause-reads_back c =
    ap (λ bytes. u16_at bytes c.args.at) (returns-clause-bytes c) ∙ reads_u16 c.args.bytes.now c.args.at c.args.number c.requires (omega arith)
