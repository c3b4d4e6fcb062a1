use Rattle.std.proofs.Common.{◌≡◌, ◌∙◌, ap, arith, false, sym, ℕ}
use Rattle.std.specs.Prelude.{Some}
use Rattle.std.proofs.lemmas.Bool.{or_parts}
use Rattle.page_layout.specs.View.{page_bytes}
use Rattle.key_attrs.specs.Columns.{tree_columns}
use Rattle.laws_search.specs.Search.{right_of}
use Rattle.bt_image.specs.Image.{page_image}
use Rattle.bt_meta.specs.declared.records.Opaque.{Opaque}
use Rattle.bt_meta.specs.Flags.{is_half_dead, is_leaf}
use Rattle.bt_meta.specs.Pages.{opaque_of}
use Rattle.bt_image.proofs.PageFields.{first_cases, has_item}
use Rattle.bt_steps.specs.Ways.{Goes, is_left_behind}
use Rattle.bt_steps.proofs.Visiting.{inner-other, leads-down, leads-right}
use Rattle.bt_steps.proofs.inner.step_on.Goals as goal

pub returns-then-is_left_behind-clause-leads : goal.returns-then-is_left_behind-clause-leads
returns-then-is_left_behind-clause-leads g c = λ readable.
    let goes : Goes = g.W.Way.goes c.args.way.now c.args.columns.now.specs.now in
    let behind = sym (c.is_left_behind.ensures readable) ∙ c.if-is_left_behind.true in
    leads-right (tree_columns c.args.columns.now) goes (page_bytes c.args.page) behind
    ∙ ap (λ (o : Opaque). Some o.next) (sym c.opaque-special.ensures)

pub returns-then-item_count-first_data-clause-leads : goal.returns-then-item_count-first_data-clause-leads
returns-then-item_count-first_data-clause-leads g c = λ readable.
    let page = page_bytes c.args.page in
    let inner : is_leaf (opaque_of page) ≡ false = sym (ap is_leaf c.opaque-special.ensures) ∙ (sym c.is_leaf.ensures ∙ c.if-is_leaf.false) in
    let some = has_item page readable.some_items inner in
    omega arith

pub returns-clause-leads : goal.returns-clause-leads
returns-clause-leads g c = λ readable.
    let columns = tree_columns c.args.columns.now in
    let goes : Goes = g.W.Way.goes c.args.way.now columns.specs in
    let page = page_bytes c.args.page in
    let stays : is_left_behind columns goes page ≡ false = sym (c.is_left_behind.ensures readable) ∙ c.if-is_left_behind.false in
    let alive : is_half_dead (opaque_of page) ≡ false = (or_parts (right_of goes (page_image columns.specs columns.more page).high_key) (is_half_dead (opaque_of page)) stays).1 in
    let inner : is_leaf (opaque_of page) ≡ false = sym (ap is_leaf c.opaque-special.ensures) ∙ (sym c.is_leaf.ensures ∙ c.if-is_leaf.false) in
    let r = c.last_passed.result in
    let one = first_cases page in
    leads-down columns goes page r (g.met.W.Way.lower c.args.way.now columns.specs) readable stays inner c.last_passed.ensures.from c.last_passed.ensures.to
    (λ past. c.last_passed.ensures.passed readable alive past)
    (λ less. c.last_passed.ensures.next readable alive less)
    ∙ ap (λ (d : ℕ). Some d) (sym (c.downlink_at.ensures columns (readable.items alive r (omega (arith, one, c.last_passed.ensures.from)) c.last_passed.ensures.to) (inner-other columns goes page r inner)))
