use Rattle.std.proofs.Common.{◌≡◌, true, ap, sym, ◌∙◌}
use Rattle.std.specs.Prelude.{Some}
use Rattle.page_layout.specs.View.{page_bytes}
use Rattle.std.proofs.lemmas.Bool.{both_ways}
use Rattle.page_layout.specs.Items.{is_misplaced_tree_item}
use Rattle.bt_meta.specs.Heads.{tree_head_of}
use Rattle.bt_tuples.specs.Rules.{breaks_place}
use Rattle.bt_level_step.proofs.Pages.{down_is, kind_is, tuple_is, upper_is}
use Rattle.bt_level_check.proofs.downlinks.downlink_at.Goals as goal

pub returns-then-is_misplaced_tree_item : goal.returns-then-is_misplaced_tree_item
returns-then-is_misplaced_tree_item c specs more plain inner =
    let page = page_bytes c.args.page in
    let upper = ap (λ h. h.upper) c.header.ensures ∙ upper_is page in
    let broken : true ≡ breaks_place page c.args.i = c.if-is_misplaced_tree_item.ensures.test ∙ (λ k. is_misplaced_tree_item (upper k) (c.item-item.ensures.value k)) in
    absurd (both_ways _ plain.rules.place (sym broken))

pub returns-in-Pivot : goal.returns-in-Pivot
returns-in-Pivot c specs more plain inner =
    let page = page_bytes c.args.page in
    let head = c.tree_head-head.ensures ∙ ap tree_head_of (tuple_is page c.piece.result.now c.args.i c.item-item.result c.item-item.ensures.value c.piece.ensures.bytes) in
    ap Some (ap (λ h. h.block) head ∙ sym (down_is specs more page c.args.i (kind_is specs more page c.args.i plain inner)))
