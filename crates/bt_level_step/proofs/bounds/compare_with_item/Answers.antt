use Rattle.std.proofs.Common.{ap, ◌∙◌}
use Rattle.std.specs.Prelude.{not}
use Rattle.std.specs.Ordering.{is_eq, is_lt}
use Rattle.page_layout.specs.View.{page_bytes}
use Rattle.laws_search.specs.Keys.{compare_keys}
use Rattle.key_orders.specs.Keys.{columns_of, tid_order}
use Rattle.key_orders.specs.Separators.{separator_of}
use Rattle.bt_tuples.specs.Keys.{first_key}
use Rattle.bt_image.specs.Image.{item_at}
use Rattle.bt_level_step.proofs.Keys.{not_below, same_either}
use Rattle.bt_level_step.proofs.Pages.{item_means, must_read}
use Rattle.bt_level_step.proofs.bounds.compare_with_item.Goals as goal

pub returns-in-Ok-clause-order : goal.returns-in-Ok-clause-order
returns-in-Ok-clause-order c =
    let tree = c.args.tree.now in
    let page = page_bytes c.args.page in
    let keys = c.in-Ok.ensures.keys in
    let means = item_means tree.columns.specs.now tree.columns.more.now page c.spot_of.result c.args.i keys.item keys.is in
    c.cmp_two_seps.ensures.order ∙ ap (compare_keys (columns_of tree.columns.specs.now) tid_order (separator_of c.args.separator.now)) (keys.first ∙ ap first_key means)

pub returns-in-Ok-clause-turned : goal.returns-in-Ok-clause-turned
returns-in-Ok-clause-turned c =
    let tree = c.args.tree.now in
    let key = first_key (item_at tree.columns.specs.now tree.columns.more.now (page_bytes c.args.page) c.args.i) in
    ap (λ o. not (is_lt o)) (returns-in-Ok-clause-order c)
    ∙ not_below (compare_keys (columns_of tree.columns.specs.now) tid_order) (c.key_orders_are_total.ensures.keys tree.columns.specs.now) (separator_of c.args.separator.now) key

pub returns-in-Ok-clause-same : goal.returns-in-Ok-clause-same
returns-in-Ok-clause-same c =
    let tree = c.args.tree.now in
    let key = first_key (item_at tree.columns.specs.now tree.columns.more.now (page_bytes c.args.page) c.args.i) in
    ap is_eq (returns-in-Ok-clause-order c)
    ∙ same_either (compare_keys (columns_of tree.columns.specs.now) tid_order) (c.key_orders_are_total.ensures.keys tree.columns.specs.now) (separator_of c.args.separator.now) key

pub returns-in-Err-clause-read : goal.returns-in-Err-clause-read
returns-in-Err-clause-read c plain =
    absurd (must_read c.args.tree.now.columns.specs.now c.args.tree.now.columns.more.now (page_bytes c.args.page) c.spot_of.result c.args.i c.in-Err.field-0 c.spot_of.ensures plain c.in-Err.ensures.fault)
