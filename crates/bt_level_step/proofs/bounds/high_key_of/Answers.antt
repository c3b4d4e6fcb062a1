use Rattle.std.proofs.Common.{◌≡◌, ◌≤◌, true, ap, sym, ◌∙◌, arith}
use Rattle.std.specs.Prelude.{Some}
use Rattle.page_layout.specs.Page.{count_of}
use Rattle.page_layout.specs.View.{page_bytes}
use Rattle.bt_tuples.specs.Keys.{first_key}
use Rattle.bt_image.specs.Image.{has_high_key}
use Rattle.bt_level_step.proofs.Pages.{high_before, high_none, high_some, high_spot, item_means, must_read, pivot_key, some_high, spot_high}
use Rattle.bt_level_step.proofs.bounds.high_key_of.Goals.{then-not-has_high_key-via-then-not-has_high_key, then-not-has_high_key-via-else-not-has_high_key+then-item_count-eq0}
use Rattle.bt_level_step.proofs.bounds.high_key_of.Goals as goal

pub returns-then-not-has_high_key-clause-key : goal.returns-then-not-has_high_key-clause-key
returns-then-not-has_high_key-clause-key c items whole =
    let tree = c.args.tree.now in
    let page = page_bytes c.args.page in
    elim c.then-not-has_high_key.branch [
      | then-not-has_high_key-via-then-not-has_high_key w ↦
          sym (high_none tree.columns.specs.now tree.columns.more.now page (sym c.has_high_key.ensures ∙ w.if-not-has_high_key.true))
      | then-not-has_high_key-via-else-not-has_high_key+then-item_count-eq0 w ↦
          absurd (some_high page items.some (sym c.has_high_key.ensures ∙ w.if-not-has_high_key.false) (sym w.item_count.ensures.value ∙ w.if-item_count-eq0.true))
    ]

pub returns-in_ok-from_ref-in-Ok-clause-key : goal.returns-in_ok-from_ref-in-Ok-clause-key
returns-in_ok-from_ref-in-Ok-clause-key c items whole =
    let tree = c.args.tree.now in
    let specs = tree.columns.specs.now in
    let more = tree.columns.more.now in
    let page = page_bytes c.args.page in
    let high : has_high_key page ≡ true = sym c.has_high_key.ensures ∙ c.if-not-has_high_key.false in
    let some : 1 ≤ count_of page = let n = c.if-item_count-eq0.false in let v = c.item_count.ensures.value in omega (arith, n, v) in
    let plain = items.plain whole 1 (omega arith) some in
    let keys = c.in-Ok.ensures.keys in
    ap Some (c.in_ok-from_ref-in-Ok.ensures ∙ keys.first ∙ ap first_key (item_means specs more page _ 1 keys.item keys.is) ∙ pivot_key specs more page 1 plain (spot_high page 1 (high_before specs more page high)))
    ∙ sym (high_some specs more page high whole)

pub returns-in-Err-clause-key : goal.returns-in-Err-clause-key
returns-in-Err-clause-key c items whole =
    let tree = c.args.tree.now in
    let specs = tree.columns.specs.now in
    let more = tree.columns.more.now in
    let page = page_bytes c.args.page in
    let high : has_high_key page ≡ true = sym c.has_high_key.ensures ∙ c.if-not-has_high_key.false in
    let some : 1 ≤ count_of page = let n = c.if-item_count-eq0.false in let v = c.item_count.ensures.value in omega (arith, n, v) in
    let plain = items.plain whole 1 (omega arith) some in
    absurd (must_read specs more page _ 1 c.in-Err.field-0 (sym (high_spot page 1 (high_before specs more page high))) plain c.in-Err.ensures.fault)
