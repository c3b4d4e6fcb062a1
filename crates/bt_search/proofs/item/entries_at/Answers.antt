use Rattle.std.proofs.Common.{◌∙◌, ap, sym}
use Rattle.page_layout.specs.Page.{piece_of}
use Rattle.page_layout.specs.View.{page_bytes}
use Rattle.page_layout.specs.declared.page.LinePtr.{LinePtr}
use Rattle.bt_meta.specs.declared.records.TreeHead.{TreeHead}
use Rattle.bt_meta.specs.Heads.{tree_head_of}
use Rattle.bt_search.specs.Items.{entries_by}
use Rattle.bt_search.proofs.InHand.{entries-are}
use Rattle.bt_search.proofs.item.entries_at.Goals as goal

pub returns : goal.returns
returns c = λ columns read.
    c.entries_by.ensures
    ∙ (ap (λ (h : TreeHead). entries_by h.kind h) (c.tree_head.ensures ∙ ap tree_head_of (c.piece.ensures.bytes ∙ ap (λ (it : LinePtr). piece_of (page_bytes c.args.page) it.off it.len) c.item-item.ensures.value))
    ∙ sym (entries-are columns (page_bytes c.args.page) c.args.i read))
