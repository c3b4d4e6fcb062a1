use Rattle.std.proofs.Common.{◌∙◌, ap}
use Rattle.page_layout.specs.View.{page_bytes}
use Rattle.key_attrs.specs.Columns.{tree_columns}
use Rattle.bt_tuples.specs.Keys.{first_key}
use Rattle.bt_steps.proofs.Items.{at-spot, no-fault}
use Rattle.bt_steps.proofs.inner.goes_right_of.Goals as goal

pub returns-in-Err : goal.returns-in-Err
returns-in-Err g c = λ plain.
    absurd (no-fault (tree_columns c.args.columns.now) (page_bytes c.args.page) c.args.i c.spot_of.result c.in-Err.field-0 plain c.spot_of.ensures c.in-Err.ensures.fault)

pub returns-in-Ok : goal.returns-in-Ok
returns-in-Ok g c = λ plain.
    let keys = c.in-Ok.ensures.keys in
    let is = keys.first ∙ ap first_key (at-spot (tree_columns c.args.columns.now) (page_bytes c.args.page) c.args.i c.spot_of.result keys.item keys.is) in
    c.goes_right.ensures ∙ ap (g.W.Way.goes c.args.way.now c.args.columns.now.specs.now) is
