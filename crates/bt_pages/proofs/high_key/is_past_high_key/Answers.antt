use Rattle.std.proofs.Common.{◌≡◌, ◌∙◌, ap, sym, true, false}
use Rattle.page_layout.specs.View.{page_bytes}
use Rattle.bt_tuples.specs.Shown.{item_shown}
use Rattle.bt_image.specs.Image.{item_at, separator_in}
use Rattle.bt_pages.specs.Questions.{is_without_fault}
use Rattle.bt_pages.proofs.Orders.{high_key-none}
use Rattle.bt_pages.proofs.Plain.{at_spot, fits-separator, item-means, plain-unread}
use Rattle.bt_pages.proofs.high_key.is_past_high_key.Goals as goal

pub returns-then-not-has_high_key : goal.returns-then-not-has_high_key
returns-then-not-has_high_key c = sym (high_key-none c.args.columns.now.specs.now c.args.columns.now.more.now (page_bytes c.args.page) (sym c.has_high_key.ensures ∙ c.if-not-has_high_key.true))

pub returns-in-Err : goal.returns-in-Err
returns-in-Err c =
    let unread : is_without_fault c.args.columns.now.specs.now c.args.columns.now.more.now (page_bytes c.args.page) 1 ≡ false =
    plain-unread c.args.columns.now.specs.now c.args.columns.now.more.now (page_bytes c.args.page) 1 _ c.requires.live
    (at_spot c.args.columns.now.specs.now c.args.columns.now.more.now (page_bytes c.args.page) 1 _ _ c.spot_of.ensures c.in-Err.ensures.outcome) in
    absurd (let both : true ≡ false = sym c.requires.plain ∙ unread in cc)

pub breaks_high_key-requires-clause-high : goal.breaks_high_key-requires-clause-high
breaks_high_key-requires-clause-high c = rw c.separator_in.ensures (fits-separator c.args.columns.now.specs.now (item_shown c.in-Ok.item) c.in-Ok.ensures.fits)

pub returns-in-Ok : goal.returns-in-Ok
returns-in-Ok c =
    let means : item_shown c.in-Ok.item ≡ item_at c.args.columns.now.specs.now c.args.columns.now.more.now (page_bytes c.args.page) 1 =
    item-means c.args.columns.now.specs.now c.args.columns.now.more.now (page_bytes c.args.page) 1 c.requires.live _ (at_spot c.args.columns.now.specs.now c.args.columns.now.more.now (page_bytes c.args.page) 1 _ _ c.spot_of.ensures c.in-Ok.ensures.outcome) in
    c.breaks_high_key.ensures c.args.columns.now.more.now (c.requires.last.key_is c.requires.some) (c.separator_in.ensures ∙ ap separator_in means)
