use Rattle.std.proofs.Common.{◌≡◌, false, ap, sym, subst, ◌∙◌, arith}
use Rattle.std.specs.Prelude.{Some}
use Rattle.bt_meta.specs.Flags.{is_leaf}
use Rattle.bt_meta.specs.Pages.{opaque_of}
use Rattle.bt_image.specs.Image.{downlink_in, item_at}
use Rattle.bt_image.specs.Pages.{IsPlainItem}
use Rattle.bt_image.proofs.PageFields.{first_cases}
use Rattle.bt_level_check.proofs.Hands.{inner, target_is}
use Rattle.bt_level_check.proofs.downlinks.Downlinks.target.Goals as goal

pub returns-in-Item : goal.returns-in-Item
returns-in-Item c specs more h =
    let d = c.args.self.now in
    let i = c.in-Item.i in
    let k = inner specs more d i c.in-Item.is h in
    let one = k.data_item.from in
    let page = c.new.ensures in
    c.downlink_at.ensures specs more (subst (λ p. IsPlainItem specs more p i) (sym page) (k.items.plain k.whole i (let n = first_cases d.page in omega (arith, n, one)) k.data_item.to)) (subst (λ p. is_leaf (opaque_of p) ≡ false) (sym page) k.inner)
    ∙ ap (λ p. Some (downlink_in (item_at specs more p i))) page ∙ sym (target_is specs more d i c.in-Item.is h)
