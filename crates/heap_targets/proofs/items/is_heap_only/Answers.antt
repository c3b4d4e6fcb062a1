use Rattle.std.proofs.Common.{◌∙◌, length, ap, sym}
use Rattle.std.proofs.Math.Facts.{Fits-lt-pow}
use Rattle.std.proofs.lemmas.Bool.{lt-leb}
use Rattle.page_layout.specs.Page.{has_bit}
use Rattle.heap_targets.proofs.Tuples.{in_word, no_flag_in_short}
use Rattle.heap_targets.proofs.items.is_heap_only.Goals as goal

pub returns-then-tuple : goal.returns-then-tuple
returns-then-tuple c =
    c.has_bit.ensures ∙ ap (λ w. has_bit w 32768) c.u16_at.ensures ∙ sym (in_word c.args.tuple.now)

pub returns-else-tuple : goal.returns-else-tuple
returns-else-tuple c =
    lt-leb 20 (length c.args.tuple.now) c.if-tuple.false
    ∙ sym (no_flag_in_short c.args.tuple.now (Fits-lt-pow (c.type_inv.tuple 18)) c.if-tuple.false)
