use Rattle.std.proofs.Common.{◌≡◌, ◌∙◌, ℕ, List, true, ap, subst, sym}
use Rattle.bt_image.specs.Image.{page_entries}
use Rattle.bt_steps.specs.Pages.{IsReadable, is_live_leaf}
use Rattle.page_layout.specs.View.{page_bytes}
use Rattle.key_attrs.specs.Columns.{tree_columns}
use Rattle.join_slots.specs.Slots.{Tables}
use Rattle.join_meet.specs.Meeting.{HaveMetSome, leaf_entries}
use Rattle.join_meet.proofs.Meets.{a-leaf}
use Rattle.join_meet.proofs.Some.{some-none, some-same}
use Rattle.join_meet.proofs.near.meet_near.Goals as goal

pub returns-then-not-is_live_leaf : goal.returns-then-not-is_live_leaf
returns-then-not-is_live_leaf c readable = some-none (leaf_entries (tree_columns c.args.columns.now) c.args.page.now) c.args.slots.now

pub returns : goal.returns
returns c readable =
    let page = c.args.page.now in
    let columns = tree_columns c.args.columns.now in
    let live = sym (c.is_live_leaf.ensures ∙ ap is_live_leaf c.new-page.ensures) ∙ c.if-not-is_live_leaf.false in
    some-same (page_entries columns.specs columns.more page) (leaf_entries columns page) c.args.slots.now c.meet_some_items.new.slots (sym (a-leaf columns page live))
    (subst (λ (p : List ℕ). IsReadable columns p → is_live_leaf p ≡ true → HaveMetSome (page_entries columns.specs columns.more p) c.args.slots.now c.meet_some_items.new.slots) c.new-page.ensures
    (subst (λ (t : Tables). IsReadable columns (page_bytes c.new-page.result) → is_live_leaf (page_bytes c.new-page.result) ≡ true → HaveMetSome (page_entries columns.specs columns.more (page_bytes c.new-page.result)) t c.meet_some_items.new.slots) c.touch.ensures c.meet_some_items.ensures) (readable live) live)
