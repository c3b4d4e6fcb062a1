use Rattle.std.proofs.Common.{◌+◌, ◌/◌, ◌%◌, ◌∙◌, ap, arith}
use Rattle.page_layout.specs.Page.{block_at}
use Rattle.page_layout.specs.Writes.{block_bytes, u16_bytes, with_bytes}
use Rattle.page_layout.proofs.Writing.{length_u16, reads_block, write_next}
use Rattle.page_layout.proofs.writers.put_block.Goals as goal

-- the second half is written beside the first
pub returns-clause-bytes : goal.returns-clause-bytes
unfolding block_bytes
returns-clause-bytes c =
    let high = c.args.block / 65536 in
    let low = c.args.block % 65536 in
    c.put_u16-2.ensures.bytes
    ∙ ap (λ bytes. with_bytes bytes (c.args.at + 2) (u16_bytes low)) c.put_u16.ensures.bytes
    ∙ write_next c.args.bytes.now (u16_bytes high) (u16_bytes low) c.args.at (c.args.at + 2)
    (let a = length_u16 high in let b = length_u16 low in let fits = c.requires in omega (arith, a, b, fits))
    (let a = length_u16 high in omega (arith, a))

pub returns-clause-reads_back : goal.returns-clause-reads_back
returns-clause-reads_back c =
    ap (λ bytes. block_at bytes c.args.at) (returns-clause-bytes c)
    ∙ reads_block c.args.bytes.now c.args.at c.args.block c.requires (omega arith)
