use Rattle.std.proofs.Common.{◌∙◌, ap, arith}
use Rattle.page_layout.specs.Page.{u32_at}
use Rattle.page_layout.specs.Writes.{u32_bytes}
use Rattle.page_layout.proofs.Writing.{write_from, reads_u32}
use Rattle.page_layout.proofs.writers.put_u32.Goals as goal

pub returns-clause-bytes : goal.returns-clause-bytes
unfolding u32_bytes
returns-clause-bytes c = write_from c.args.at c.args.bytes.now (u32_bytes c.args.number) c.write_u32.new.buf c.requires c.write_u32.ensures

pub returns-clause-reads_back : goal.returns-clause-reads_back
returns-clause-reads_back c =
    ap (λ bytes. u32_at bytes c.args.at) (returns-clause-bytes c) ∙ reads_u32 c.args.bytes.now c.args.at c.args.number c.requires (omega arith)
