use Rattle.std.proofs.Common.{◌≡◌, ◌∙◌, sym, true}
use Rattle.std.specs.Prelude.{None}
use Rattle.std.proofs.lemmas.Bool.{OnTrue_at, OnTrue_from, both_ways}
use Rattle.page_layout.specs.View.{page_bytes}
use Rattle.bt_image.specs.Image.{has_high_key, item_at, separator_in}
use Rattle.join_distinct.proofs.differ.has_no_tid_above.Goals as goal

pub returns-then-not-has_high_key : goal.returns-then-not-has_high_key
returns-then-not-has_high_key c high = absurd (both_ways (has_high_key (page_bytes c.args.page)) (sym c.has_high_key.ensures ∙ c.if-not-has_high_key.true) high)

pub returns : goal.returns
returns c =
    let page = page_bytes c.args.page in
    OnTrue_from c.keeps_no_tid.result (has_high_key page ≡ true → (separator_in (item_at c.args.columns.now.specs.now c.args.columns.now.more.now page 1)).tid ≡ None)
    (λ e high. OnTrue_at e c.keeps_no_tid.ensures)
