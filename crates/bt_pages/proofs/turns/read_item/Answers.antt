use Rattle.std.proofs.Common.{◌≡◌, ◌∙◌, ℕ, List, ap, sym, subst, arith}
use Rattle.page_layout.specs.View.{page_bytes}
use Rattle.key_orders.specs.Keys.{IsKeySeparator}
use Rattle.bt_tuples.specs.Keys.{first_key, last_key}
use Rattle.bt_image.specs.declared.places.ItemPlace.{ItemPlace}
use Rattle.bt_image.specs.Image.{item_at, spot_of}
use Rattle.bt_image.specs.Places.{place_of}
use Rattle.bt_pages.proofs.Orders.{compared-past_1}
use Rattle.bt_pages.proofs.Plain.{at_spot, fits-first, fits-last, item-means, plain-read, plain-unread}
use Rattle.bt_pages.proofs.turns.read_item.Goals as goal

-- what form an item has to have
spot_is : (at : ItemPlace) (page : List ℕ) → at ≡ place_of page at.number → at.spot ≡ spot_of page at.number
spot_is at page is = ap (λ (p : ItemPlace). p.spot) is

pub returns-in-Err-clause-plain : goal.returns-in-Err-clause-plain
returns-in-Err-clause-plain c =
    plain-unread c.args.columns.now.specs.now c.args.columns.now.more.now (page_bytes c.args.page) c.args.at.number _ c.requires.live
    (at_spot c.args.columns.now.specs.now c.args.columns.now.more.now (page_bytes c.args.page) c.args.at.number _ _ (spot_is c.args.at (page_bytes c.args.page) c.requires.place) (sym c.in-Err.ensures.fault))

pub returns-in-Ok-clause-plain : goal.returns-in-Ok-clause-plain
returns-in-Ok-clause-plain c =
    plain-read c.args.columns.now.specs.now c.args.columns.now.more.now (page_bytes c.args.page) c.args.at.number _ c.requires.live
    (at_spot c.args.columns.now.specs.now c.args.columns.now.more.now (page_bytes c.args.page) c.args.at.number _ _ (spot_is c.args.at (page_bytes c.args.page) c.requires.place) (sym c.in-Ok.ensures.keys.is))

pub breaks_order-is_low-requires-clause-before : goal.breaks_order-is_low-requires-clause-before
breaks_order-is_low-requires-clause-before c = c.requires.before.fits

pub breaks_order-is_low-requires-clause-item : goal.breaks_order-is_low-requires-clause-item
breaks_order-is_low-requires-clause-item c =
    let keys = c.in-Ok.ensures.keys in
    subst (IsKeySeparator c.args.columns.now.specs.now) (sym keys.first) (fits-first c.args.columns.now.specs.now keys.item keys.fits)

pub returns-in-Ok-clause-low : goal.returns-in-Ok-clause-low
returns-in-Ok-clause-low c =
    let keys = c.in-Ok.ensures.keys in
    let means : keys.item ≡ item_at c.args.columns.now.specs.now c.args.columns.now.more.now (page_bytes c.args.page) c.args.at.number =
    item-means c.args.columns.now.specs.now c.args.columns.now.more.now (page_bytes c.args.page) c.args.at.number c.requires.live _ (at_spot c.args.columns.now.specs.now c.args.columns.now.more.now (page_bytes c.args.page) c.args.at.number _ _ (spot_is c.args.at (page_bytes c.args.page) c.requires.place) (sym keys.is)) in
    c.breaks_order-is_low.ensures c.args.columns.now.more.now (page_bytes c.args.page) c.requires.place (λ compared. c.requires.before.key_is (let past = compared-past_1 (page_bytes c.args.page) in omega (arith, compared, past))) (keys.first ∙ ap first_key means)

pub returns-in-Ok-clause-last : goal.returns-in-Ok-clause-last
returns-in-Ok-clause-last c =
    let keys = c.in-Ok.ensures.keys in
    let means : keys.item ≡ item_at c.args.columns.now.specs.now c.args.columns.now.more.now (page_bytes c.args.page) c.args.at.number =
    item-means c.args.columns.now.specs.now c.args.columns.now.more.now (page_bytes c.args.page) c.args.at.number c.requires.live _ (at_spot c.args.columns.now.specs.now c.args.columns.now.more.now (page_bytes c.args.page) c.args.at.number _ _ (spot_is c.args.at (page_bytes c.args.page) c.requires.place) (sym keys.is)) in
    let key = c.keep_last.ensures ∙ keys.last in
    record {
      fits = subst (IsKeySeparator c.args.columns.now.specs.now) (sym key) (fits-last c.args.columns.now.specs.now keys.item keys.fits);
      key_is = λ from. key ∙ ap last_key means;
    }
