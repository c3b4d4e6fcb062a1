use Rattle.std.proofs.Common.{◌≡◌, ◌≢◌, ap, sym, subst, ◌∙◌, arith}
use Rattle.std.specs.Prelude.{Some}
use Rattle.laws_levels.specs.Same.{same_keys}
use Rattle.laws_levels.specs.Tests.{same_bound}
use Rattle.key_orders.specs.Keys.{columns_of, tid_order}
use Rattle.bt_tuples.specs.Keys.{first_key}
use Rattle.bt_image.specs.Image.{first_data, item_at}
use Rattle.bt_image.specs.Pages.{IsPlainItem}
use Rattle.bt_image.proofs.PageFields.{first_cases}
use Rattle.bt_level_check.proofs.Hands.{inner, next, separator_is}
use Rattle.bt_level_step.proofs.Pages.{pivot_key, spot_inner}
use Rattle.bt_level_check.proofs.downlinks.Downlinks.is_bound.Goals as goal

pub returns-then-i-first_data : goal.returns-then-i-first_data
returns-then-i-first_data c hand =
    let d = c.args.self.now in
    let tree = c.args.tree.now in
    let specs = tree.columns.specs.now in
    let more = tree.columns.more.now in
    let i = c.in-Item.i in
    let n = next specs more d i c.in-Item.is hand in
    let first : i ≡ first_data d.page = c.if-i-first_data.true ∙ c.first_data.ensures ∙ ap first_data c.new-page.ensures in
    c.is_same_bound.ensures
    ∙ ap (λ s. same_bound (same_keys (columns_of specs) tid_order) s c.args.lower.now) (sym (separator_is specs more d i c.in-Item.is hand ∙ n.first first))

pub returns-else-i-first_data : goal.returns-else-i-first_data
returns-else-i-first_data c hand =
    let d = c.args.self.now in
    let tree = c.args.tree.now in
    let specs = tree.columns.specs.now in
    let more = tree.columns.more.now in
    let i = c.in-Item.i in
    let k = inner specs more d i c.in-Item.is hand in
    let n = next specs more d i c.in-Item.is hand in
    let from = k.data_item.from in
    let page = c.new-page.ensures in
    let later : i ≢ first_data d.page = λ e. c.if-i-first_data.false (e ∙ sym (c.first_data.ensures ∙ ap first_data page)) in
    let plain = k.items.plain k.whole i (let one = first_cases d.page in omega (arith, one, from)) k.data_item.to in
    c.is_bound_of_item.ensures (subst (λ p. IsPlainItem specs more p i) (sym page) plain)
    ∙ ap (λ s. same_bound (same_keys (columns_of specs) tid_order) s c.args.lower.now)
    (ap Some (ap (λ p. first_key (item_at specs more p i)) page ∙ pivot_key specs more d.page i plain (spot_inner d.page i k.inner)) ∙ sym (separator_is specs more d i c.in-Item.is hand ∙ n.later later))
