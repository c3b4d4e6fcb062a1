use Rattle.std.proofs.Common.{◌≡◌, ◌<◌, false, ap, sym, subst, ◌∙◌, arith}
use Rattle.page_layout.specs.Page.{count_of}
use Rattle.bt_level_step.specs.Pages.{HasPlainItems}
use Rattle.bt_meta.specs.Flags.{is_half_dead}
use Rattle.bt_meta.specs.Pages.{opaque_of}
use Rattle.bt_image.specs.Image.{page_image}
use Rattle.bt_level_check.proofs.Hands.{advanced_in, advanced_out, inner}
use Rattle.bt_level_check.proofs.downlinks.Downlinks.advance.Goals as goal

pub returns-then-i-item_count-clause-advanced : goal.returns-then-i-item_count-clause-advanced
returns-then-i-item_count-clause-advanced c d ds hand is =
    let old = c.args.self.now in
    let tree = c.args.tree.now in
    let lt : c.in-Item.i < count_of old.page = let t = c.if-i-item_count.true in let n = c.item_count.ensures.value ∙ ap count_of c.new-page.ensures in omega (arith, t, n) in
    advanced_in tree.columns.specs.now tree.columns.more.now old c.in-Item.i c.in-Item.is hand d ds is lt

pub returns-in_ok-lower-in-Item-clause-advanced : goal.returns-in_ok-lower-in-Item-clause-advanced
returns-in_ok-lower-in-Item-clause-advanced c d ds hand is =
    let old = c.args.self.now in
    let tree = c.args.tree.now in
    let k = inner tree.columns.specs.now tree.columns.more.now old c.in-Item.i c.in-Item.is hand in
    let last : c.in-Item.i ≡ count_of old.page = let t = c.if-i-item_count.false in let n = c.item_count.ensures.value ∙ ap count_of c.new-page.ensures in let to = k.data_item.to in omega (arith, t, n, to) in
    let page = c.new-page.ensures in
    let key = c.in_ok-lower-in-Item.ensures.key (subst (HasPlainItems tree.columns.specs.now tree.columns.more.now) (sym page) k.items) (subst (λ p. is_half_dead (opaque_of p) ≡ false) (sym page) k.whole) in
    advanced_out tree.columns.specs.now tree.columns.more.now old c.in-Item.i c.in-Item.is hand d ds is c.in_ok-lower-in-Item.lower last (key ∙ ap (λ p. (page_image tree.columns.specs.now tree.columns.more.now p).high_key) c.new-page.ensures)
