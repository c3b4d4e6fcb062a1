use Rattle.std.proofs.Common.{◌∙◌, ap, arith}
use Rattle.page_layout.specs.Bits.{is_set}
use Rattle.page_layout.proofs.OneBit.{filled_up}
use Rattle.page_layout.proofs.bits.make_room.Goals as goal

pub returns-in_ok-resize-clause-same : goal.returns-in_ok-resize-clause-same
returns-in_ok-resize-clause-same c = λ p.
    let bits = c.args.bits.now in
    ap (λ b. is_set b p) c.in_ok-resize.ensures.items
    ∙ filled_up bits.items bits.len c.div_ceil-bytes.result p bits.ok.0 (omega (arith, c.if-len-bytes.true, c.len.ensures))
