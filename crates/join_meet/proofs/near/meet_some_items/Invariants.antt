use Rattle.std.proofs.Common.{◌≡◌, true}
use Rattle.page_layout.specs.View.{page_bytes}
use Rattle.key_attrs.specs.Columns.{tree_columns}
use Rattle.bt_image.specs.Image.{page_entries}
use Rattle.bt_steps.specs.Pages.{IsReadable, is_live_leaf}
use Rattle.join_meet.specs.Meeting.{HaveMetSome}
use Rattle.join_meet.proofs.near.meet_some_items.Given as goal

-- some of the page's entries have met their rows
abbrev pub invariant-loop-k : goal.invariant-loop-k
invariant-loop-k l =
    IsReadable (tree_columns l.columns) (page_bytes l.page) → is_live_leaf (page_bytes l.page) ≡ true
    → HaveMetSome (page_entries l.columns.specs.now l.columns.more.now (page_bytes l.page)) l.initial.slots l.slots
