use Rattle.std.proofs.Common.{◌≡◌, ◌∙◌, ap, arith, false, sym}
use Rattle.page_layout.specs.View.{page_bytes}
use Rattle.key_attrs.specs.Columns.{tree_columns}
use Rattle.bt_meta.specs.Flags.{is_half_dead}
use Rattle.bt_meta.specs.Pages.{opaque_of}
use Rattle.bt_steps.specs.Ways.{Goes}
use Rattle.bt_steps.proofs.Visiting.{behind-key, behind-last, some-item}
use Rattle.bt_steps.proofs.inner.is_left_behind.Goals as goal
use Rattle.bt_steps.proofs.inner.is_left_behind.Goals.{then-not-has_high_key-via-then-not-has_high_key, then-not-has_high_key-via-else-not-has_high_key+then-item_count-eq0}

pub returns-then-not-has_high_key : goal.returns-then-not-has_high_key
returns-then-not-has_high_key g c = λ readable.
    let columns = tree_columns c.args.columns.now in
    let goes : Goes = g.W.Way.goes c.args.way.now columns.specs in
    let page = page_bytes c.args.page in
    let alive : is_half_dead (opaque_of page) ≡ false = sym (ap is_half_dead c.opaque.ensures) ∙ (sym c.is_half_dead.ensures ∙ c.if-is_half_dead.false) in
    elim c.then-not-has_high_key.branch [
      | then-not-has_high_key-via-then-not-has_high_key w ↦ sym (behind-last columns goes page alive (sym c.has_high_key.ensures ∙ w.if-not-has_high_key.true))
      | then-not-has_high_key-via-else-not-has_high_key+then-item_count-eq0 w ↦ absurd (some-item columns goes page readable (sym c.has_high_key.ensures ∙ w.if-not-has_high_key.false) (sym w.item_count.ensures.value ∙ w.if-item_count-eq0.true))
    ]

pub returns : goal.returns
returns g c = λ readable.
    let columns = tree_columns c.args.columns.now in
    let goes : Goes = g.W.Way.goes c.args.way.now columns.specs in
    let page = page_bytes c.args.page in
    let alive : is_half_dead (opaque_of page) ≡ false = sym (ap is_half_dead c.opaque.ensures) ∙ (sym c.is_half_dead.ensures ∙ c.if-is_half_dead.false) in
    let some = c.item_count.ensures.value in
    let plain = readable.items alive 1 (omega arith) (omega (arith, some, c.if-item_count-eq0.false)) in
    c.goes_right_of.ensures plain ∙ sym (behind-key columns goes page alive (sym c.has_high_key.ensures ∙ c.if-not-has_high_key.false) plain)
