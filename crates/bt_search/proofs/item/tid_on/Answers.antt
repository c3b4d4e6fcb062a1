use Rattle.std.proofs.Common.{◌≡◌, ◌∙◌, ◌+◌, ◌*◌, ◌≤◌, List, ℕ, ap, length, subst, sym}
use Rattle.page_layout.specs.Page.{piece_of}
use Rattle.page_layout.specs.View.{page_bytes}
use Rattle.page_layout.specs.declared.page.LinePtr.{LinePtr}
use Rattle.bt_meta.specs.declared.records.TreeHead.{TreeHead}
use Rattle.bt_meta.specs.Heads.{tree_head_of}
use Rattle.bt_tuples.specs.Rules.{tuple_of}
use Rattle.bt_search.specs.Items.{tid_by}
use Rattle.bt_search.proofs.InHand.{IsTidOf, tid-is}
use Rattle.bt_search.proofs.item.tid_on.Goals as goal

pub returns : goal.returns
returns c = λ columns e read get.
    let page = page_bytes c.args.page in
    let bytes : c.piece-tuple.result.now ≡ tuple_of page c.args.at.item =
    c.piece-tuple.ensures.bytes ∙ ap (λ (it : LinePtr). piece_of page it.off it.len) c.item-item.ensures.value in
    let is = tid-is columns page c.args.at.item c.args.at.nth e read get in
    let own = subst (λ (t : List ℕ). IsTidOf (tree_head_of t).kind t c.args.at.nth e.tid) (sym bytes) is in
    let head = c.tree_head.ensures in
    c.tid_by.ensures (λ posting. let there = own.within (ap (λ (h : TreeHead). h.kind) (sym head) ∙ posting) in subst (λ (h : TreeHead). h.block + 6 * c.args.at.nth + 6 ≤ length c.piece-tuple.result.now) (sym head) there)
    ∙ ap (λ (h : TreeHead). tid_by h.kind c.piece-tuple.result.now c.args.at.nth) head
    ∙ own.is
