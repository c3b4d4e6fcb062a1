use Rattle.std.proofs.Common.{◌≡◌, ◌≤◌, true, ap, sym, ◌∙◌, arith}
use Rattle.std.specs.Prelude.{not, Some}
use Rattle.std.specs.Ordering.{is_lt}
use Rattle.page_layout.specs.Page.{count_of}
use Rattle.page_layout.specs.View.{page_bytes}
use Rattle.laws_search.specs.Keys.{compare_keys}
use Rattle.laws_levels.specs.Tests.{is_low_separator}
use Rattle.key_orders.specs.Keys.{columns_of, tid_order}
use Rattle.key_orders.specs.Scans.{order_of}
use Rattle.key_orders.specs.Separators.{separator_of}
use Rattle.bt_image.specs.Image.{has_high_key}
use Rattle.bt_level_step.proofs.Pages.{high_before, high_none, high_some, pivot_key, some_high, spot_high}
use Rattle.bt_level_step.proofs.bounds.has_low_high_key.Goals.{then-not-has_high_key-via-then-not-has_high_key, then-not-has_high_key-via-else-not-has_high_key+then-item_count-eq0}
use Rattle.bt_level_step.proofs.bounds.has_low_high_key.Goals as goal

pub returns-then-not-has_high_key : goal.returns-then-not-has_high_key
returns-then-not-has_high_key c items whole =
    let tree = c.args.tree.now in
    let page = page_bytes c.args.page in
    elim c.then-not-has_high_key.branch [
      | then-not-has_high_key-via-then-not-has_high_key w ↦
          sym (ap (is_low_separator (order_of tree.columns.specs.now) (Some (separator_of c.args.lower.now))) (high_none tree.columns.specs.now tree.columns.more.now page (sym c.has_high_key.ensures ∙ w.if-not-has_high_key.true)))
      | then-not-has_high_key-via-else-not-has_high_key+then-item_count-eq0 w ↦
          absurd (some_high page items.some (sym c.has_high_key.ensures ∙ w.if-not-has_high_key.false) (sym w.item_count.ensures.value ∙ w.if-item_count-eq0.true))
    ]

pub returns-in-Some : goal.returns-in-Some
returns-in-Some c items whole =
    let tree = c.args.tree.now in
    let specs = tree.columns.specs.now in
    let more = tree.columns.more.now in
    let page = page_bytes c.args.page in
    let lower = separator_of c.args.lower.now in
    let high : has_high_key page ≡ true = sym c.has_high_key.ensures ∙ c.if-not-has_high_key.false in
    let some : 1 ≤ count_of page = let n = c.if-item_count-eq0.false in let v = c.item_count.ensures.value in omega (arith, n, v) in
    let plain = items.plain whole 1 (omega arith) some in
    ap not (c.is_lt.ensures ∙ ap is_lt c.in-Some.ensures.order)
    ∙ ap (λ t. not (is_lt (compare_keys (columns_of specs) tid_order lower t))) (pivot_key specs more page 1 plain (spot_high page 1 (high_before specs more page high)))
    ∙ sym (ap (is_low_separator (order_of specs) (Some lower)) (high_some specs more page high whole))
