use Rattle.std.proofs.Common.{◌∙◌, Bool, ap, sym, true}
use Rattle.bt_tuples.specs.declared.items.TreeItem.{TreeItem}
use Rattle.bt_tuples.specs.Items.{Posting}
use Rattle.bt_tuples.specs.Shown.{item_shown}
use Rattle.bt_image.specs.Image.{entries_in}
use Rattle.join_meet.proofs.Meets.{killed-list, same}
use Rattle.join_meet.proofs.meet.meet_read_item.Goals as goal

-- a list whose entries are killed
pub returns-else-not-killed-2 : goal.returns-else-not-killed-2
returns-else-not-killed-2 c =
    let list = c.in-Posting in
    let slots = c.args.slots.now in
    let is = ap (λ (it : TreeItem). entries_in (item_shown it)) list.is ∙ ap (λ (killed : Bool). entries_in (Posting list.key list.tids killed)) c.if-not-killed-2.false in
    same (entries_in (Posting list.key list.tids true)) (entries_in (item_shown c.args.item.now)) slots slots (sym is) (killed-list list.key list.tids slots)
