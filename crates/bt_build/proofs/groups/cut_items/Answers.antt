use Rattle.std.proofs.Common.{◌+◌, List, sym, subst}
use Rattle.bt_image.specs.Image.{LeafEntry}
use Rattle.bt_build.specs.Groups.{IsNextItem}
use Rattle.bt_build.specs.Source.{entries_of}
use Rattle.bt_build.proofs.GroupLaws.{SoFar, drop_entries, next_so_far}
use Rattle.bt_build.proofs.groups.cut_items.Goals as goal

pub loop-first-preserved : goal.loop-first-preserved
loop-first-preserved c =
    let s = c.args.source in
    let es = entries_of s c.args.places.now in
    let first = c.loop-first.first in
    let item = c.next_item-item.result in
    let next =
    subst (λ (w : List LeafEntry). IsNextItem s.specs.now s.more.now first w item)
    (drop_entries s.specs.now s.arena.now c.args.places.now first) c.next_item-item.ensures in
    subst (SoFar s.specs.now s.more.now es (first + item.count)) (sym c.in_ok-push.ensures.items)
    (next_so_far s.specs.now s.more.now es first c.loop-first.items.items item c.loop-first.invariant next)
