use Rattle.std.proofs.Common.{◌∙◌, ap}
use Rattle.page_layout.specs.Page.{piece_of}
use Rattle.page_layout.specs.View.{page_bytes}
use Rattle.page_layout.specs.declared.page.LinePtr.{LinePtr}
use Rattle.bt_meta.specs.declared.records.TreeHead.{TreeHead}
use Rattle.bt_meta.specs.Heads.{tree_head_of}
use Rattle.bt_steps.proofs.Separators.{downlink-is}
use Rattle.bt_steps.proofs.inner.downlink_at.Goals as goal

pub returns : goal.returns
returns c = λ columns plain other.
    ap (λ (h : TreeHead). h.block) (c.tree_head.ensures ∙ ap tree_head_of (c.piece.ensures.bytes ∙ ap (λ (it : LinePtr). piece_of (page_bytes c.args.page) it.off it.len) c.item-item.ensures.value))
    ∙ downlink-is columns (page_bytes c.args.page) c.args.i plain other
