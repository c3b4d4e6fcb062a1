use Rattle.std.proofs.Common.{◌≡◌, true}
use Rattle.std.specs.List.{flat_map}
use Rattle.page_layout.specs.View.{page_bytes}
use Rattle.key_attrs.specs.Columns.{tree_columns}
use Rattle.bt_image.specs.Image.{entries_in, first_data, item_at, numbers_from}
use Rattle.bt_steps.specs.Pages.{IsReadable, is_live_leaf}
use Rattle.join_meet.specs.Meeting.{HaveMet}
use Rattle.join_meet.proofs.meet.meet_items.Given as goal

-- the entries of the items so far have met their rows
abbrev pub invariant-loop-k : goal.invariant-loop-k
invariant-loop-k l =
    IsReadable (tree_columns l.columns) (page_bytes l.page) → is_live_leaf (page_bytes l.page) ≡ true
    → HaveMet (flat_map (λ i. entries_in (item_at l.columns.specs.now l.columns.more.now (page_bytes l.page) i)) (numbers_from (first_data (page_bytes l.page)) l.k)) l.initial.slots l.slots
