use Rattle.std.proofs.Common.{◌∙◌, map, ap}
use Rattle.std.specs.Prelude.{slice_get}
use Rattle.page_layout.specs.View.{page_bytes}
use Rattle.key_orders.specs.Values.{value_shown}
use Rattle.key_storage.specs.Same.{same_key}
use Rattle.key_attrs.specs.Columns.{tree_columns}
use Rattle.bt_tuples.specs.Items.{Item}
use Rattle.bt_tuples.specs.Shown.{item_shown}
use Rattle.bt_image.specs.Image.{entries_in}
use Rattle.bt_steps.proofs.Items.{item-is, item-unread}
use Rattle.bt_search.specs.Entries.{included_in}
use Rattle.bt_search.proofs.included.page_includes.Goals as goal

pub returns-in-Err : goal.returns-in-Err
returns-in-Err c = λ has. absurd (item-unread (tree_columns c.args.columns.now) (page_bytes c.args.page) c.args.at.item c.in-Err.field-0 c.in-Err.ensures.outcome has.read)

pub returns-in-Ok : goal.returns-in-Ok
returns-in-Ok c = λ has.
    c.item_includes.ensures
    ∙ ap (λ (it : Item). same_key (map value_shown c.args.more.now) (included_in (slice_get (entries_in it) c.args.at.nth))) (item-is (tree_columns c.args.columns.now) (page_bytes c.args.page) c.args.at.item (item_shown c.in-Ok.item) c.in-Ok.ensures.outcome)
