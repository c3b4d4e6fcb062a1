use Rattle.std.proofs.Common.{ℕ, ◌+◌, ◌≤◌, ap, sym, ◌∙◌, arith}
use Rattle.std.specs.Prelude.{not, Some}
use Rattle.std.specs.Ordering.{is_lt}
use Rattle.page_layout.specs.Page.{count_of}
use Rattle.page_layout.specs.View.{page_bytes}
use Rattle.laws_search.specs.Keys.{compare_keys}
use Rattle.laws_levels.specs.Tests.{is_low_separator}
use Rattle.key_orders.specs.Keys.{columns_of, tid_order}
use Rattle.key_orders.specs.Scans.{order_of}
use Rattle.key_orders.specs.Separators.{separator_of}
use Rattle.bt_tuples.specs.Keys.{first_key}
use Rattle.bt_image.specs.Image.{first_data, item_at}
use Rattle.bt_level_step.proofs.Pages.{pivot_key, second_some, spot_inner}
use Rattle.bt_image.proofs.PageFields.{first_cases}
use Rattle.bt_level_step.proofs.bounds.has_low_item.Goals as goal

pub returns-in-Some : goal.returns-in-Some
returns-in-Some c items whole inner =
    let tree = c.args.tree.now in
    let specs = tree.columns.specs.now in
    let more = tree.columns.more.now in
    let page = page_bytes c.args.page in
    let lower = separator_of c.args.lower.now in
    let some : first_data page + 1 ≤ count_of page = let n = c.if-item_count-second.false in let v = c.item_count.ensures.value in let f = c.first_data-second.ensures in omega (arith, n, v, f) in
    let one = first_cases page in
    let plain = items.plain whole (first_data page + 1) (omega (arith, one)) some in
    ap not (c.is_lt.ensures ∙ ap is_lt c.in-Some.ensures.order)
    ∙ ap (λ (i : ℕ). not (is_lt (compare_keys (columns_of specs) tid_order lower (first_key (item_at specs more page (i + 1)))))) c.first_data-second.ensures
    ∙ ap (λ t. not (is_lt (compare_keys (columns_of specs) tid_order lower t))) (pivot_key specs more page (first_data page + 1) plain (spot_inner page (first_data page + 1) inner))
    ∙ sym (ap (is_low_separator (order_of specs) (Some lower)) (second_some specs more page inner some))
