use Rattle.std.proofs.Common.{ℕ, ◌≤◌, ap, sym, ◌∙◌, arith}
use Rattle.std.specs.Prelude.{not, Some}
use Rattle.std.specs.Ordering.{is_le}
use Rattle.page_layout.specs.Page.{count_of}
use Rattle.page_layout.specs.View.{page_bytes}
use Rattle.laws_search.specs.Keys.{compare_keys}
use Rattle.laws_levels.specs.Tests.{is_low_entry}
use Rattle.key_orders.specs.Keys.{columns_of, tid_order}
use Rattle.key_orders.specs.Scans.{order_of}
use Rattle.key_orders.specs.Separators.{separator_of}
use Rattle.bt_tuples.specs.Keys.{first_key}
use Rattle.bt_image.specs.Image.{first_data, item_at}
use Rattle.bt_level_step.proofs.Pages.{first_entry}
use Rattle.bt_level_step.proofs.bounds.has_low_entry.Goals as goal

pub returns-in-Some : goal.returns-in-Some
returns-in-Some c items whole leaf =
    let tree = c.args.tree.now in
    let specs = tree.columns.specs.now in
    let more = tree.columns.more.now in
    let page = page_bytes c.args.page in
    let lower = separator_of c.args.lower.now in
    let some : first_data page ≤ count_of page = let n = c.if-item_count-first.false in let v = c.item_count.ensures.value in let f = c.first_data-first.ensures in omega (arith, n, v, f) in
    let first = first_entry specs more page leaf whole items some in
    ap not c.is_lt.ensures ∙ c.in-Some.ensures.turned
    ∙ ap (λ (i : ℕ). is_le (compare_keys (columns_of specs) tid_order (first_key (item_at specs more page i)) lower)) c.first_data-first.ensures
    ∙ ap (λ s. is_le (compare_keys (columns_of specs) tid_order s lower)) (sym first.key)
    ∙ sym (ap (is_low_entry (order_of specs) (Some lower)) first.is)
