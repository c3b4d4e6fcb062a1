use Rattle.std.proofs.Common.{refl, sym, subst}
use Rattle.std.specs.Prelude.{IsSomeAnd, Option, slice_get}
use Rattle.laws_search.specs.Keys.{Entry}
use Rattle.key_orders.specs.declared.columns.Value.{Value}
use Rattle.key_orders.specs.declared.Tid.{Tid}
use Rattle.bt_tuples.specs.declared.items.TreeItem.{TreeItem}
use Rattle.bt_tuples.specs.Shown.{item_shown}
use Rattle.bt_image.specs.Image.{keys_in}
use Rattle.bt_search.specs.declared.spot.EntryRef.{EntryRef}
use Rattle.bt_search.specs.Entries.{Shows}
use Rattle.bt_steps.proofs.Items.{list-get}
use Rattle.bt_search.proofs.entry.entry_in.Goals as goal

pub returns-then-nth-len-clause-entry : goal.returns-then-nth-len-clause-entry
returns-then-nth-len-clause-entry c =
    let shown : EntryRef = record { key = c.in-Posting.key; tid = c.get-tid.result } in
    subst (λ (it : TreeItem). IsSomeAnd (slice_get (keys_in (item_shown it)) c.args.nth) (Shows shown)) (sym c.in-Posting.is)
    (subst (λ (o : Option (Entry Value Tid)). IsSomeAnd o (Shows shown)) (sym (list-get c.in-Posting.key c.in-Posting.tids c.in-Posting.killed c.args.nth c.get-tid.result (sym c.get-tid.ensures)))
    (record { key = refl; tid = refl }))
