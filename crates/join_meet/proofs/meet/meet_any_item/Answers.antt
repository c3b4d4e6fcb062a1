use Rattle.page_layout.specs.View.{page_bytes}
use Rattle.key_attrs.specs.Columns.{tree_columns}
use Rattle.bt_tuples.specs.Shown.{item_shown}
use Rattle.bt_steps.proofs.Items.{item-unread}
use Rattle.join_meet.proofs.PlainKeys.{read-item-met}
use Rattle.join_meet.proofs.meet.meet_any_item.Goals as goal

pub returns-in-Ok : goal.returns-in-Ok
returns-in-Ok c = λ read.
    read-item-met (tree_columns c.args.columns.now) (page_bytes c.args.page) c.args.i (item_shown c.in-Ok.item) c.args.slots.now c.meet_read_item.new.slots c.in-Ok.ensures.outcome c.meet_read_item.ensures

pub returns-in_default : goal.returns-in_default
returns-in_default c = λ read.
    absurd (item-unread (tree_columns c.args.columns.now) (page_bytes c.args.page) c.args.i c.in_default.field-0 c.in_default.ensures.outcome read)
