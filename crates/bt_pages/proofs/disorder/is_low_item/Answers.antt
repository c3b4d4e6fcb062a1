use Rattle.std.proofs.Common.{◌≡◌, ◌∙◌, ap, sym, subst, true, false}
use Rattle.page_layout.specs.View.{page_bytes}
use Rattle.bt_image.specs.declared.places.ItemPlace.{ItemPlace}
use Rattle.bt_pages.specs.Questions.{is_without_fault}
use Rattle.bt_pages.proofs.Passing.{plain-each}
use Rattle.bt_pages.proofs.disorder.is_low_item.Goals as goal

pub returns-in-None : goal.returns-in-None
returns-in-None c =
    let specs = c.args.columns.now.specs.now in
    let more = c.args.columns.now.more.now in
    let page = page_bytes c.args.page in
    let number = ap (λ (p : ItemPlace). p.number) (c.at-at.ensures page c.of.ensures) in
    absurd (let both : true ≡ false =
    sym (plain-each specs more page c.args.i _ c.requires.first c.requires.last c.requires.plain)
    ∙ subst (λ i. is_without_fault specs more page i ≡ false) number c.in-None.ensures.plain in cc)
