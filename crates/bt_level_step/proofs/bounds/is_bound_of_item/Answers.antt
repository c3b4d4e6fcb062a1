use Rattle.std.proofs.Common.{ap, sym, ◌∙◌}
use Rattle.std.specs.Prelude.{Some}
use Rattle.std.specs.Ordering.{is_eq}
use Rattle.page_layout.specs.View.{page_bytes}
use Rattle.laws_search.specs.Keys.{compare_keys}
use Rattle.key_orders.specs.Keys.{columns_of, tid_order}
use Rattle.bt_tuples.specs.Keys.{first_key}
use Rattle.bt_image.specs.Image.{item_at}
use Rattle.laws_levels.specs.Same.{same_keys}
use Rattle.laws_levels.specs.Tests.{same_bound}
use Rattle.bt_level_step.proofs.bounds.is_bound_of_item.Goals as goal

pub returns-in-Some-compare_with_item : goal.returns-in-Some-compare_with_item
returns-in-Some-compare_with_item c plain =
    let tree = c.args.tree.now in
    let key = first_key (item_at tree.columns.specs.now tree.columns.more.now (page_bytes c.args.page) c.args.i) in
    c.is_eq.ensures ∙ c.in-Some-compare_with_item.ensures.same
    ∙ ap (λ s. is_eq (compare_keys (columns_of tree.columns.specs.now) tid_order key s)) c.view.ensures
    ∙ sym (ap (same_bound (same_keys (columns_of tree.columns.specs.now) tid_order) (Some key)) c.in-Some.is)
