use Rattle.std.proofs.Common.{◌≡◌, ◌∙◌, ap, sym, subst, true, false, arith}
use Rattle.page_layout.specs.View.{page_bytes}
use Rattle.key_orders.specs.Keys.{IsKeySeparator}
use Rattle.bt_tuples.specs.Keys.{last_key}
use Rattle.bt_image.specs.Image.{item_at}
use Rattle.bt_pages.specs.Questions.{is_without_fault}
use Rattle.bt_pages.proofs.Passing.{plain-each}
use Rattle.bt_pages.proofs.Plain.{at_spot, fits-last, item-means, nothing-fits, plain-unread}
use Rattle.bt_pages.proofs.high_key.last_key_at.Goals as goal

pub returns-then-i-eq0 : goal.returns-then-i-eq0
returns-then-i-eq0 c = record {
  fits = subst (IsKeySeparator c.args.columns.now.specs.now) (sym c.new-keys.ensures) (nothing-fits c.args.columns.now.specs.now);
  key_is = λ from. absurd (omega (arith, from, c.if-i-eq0.true));
}

pub returns-in-Err : goal.returns-in-Err
returns-in-Err c =
    let unread : is_without_fault c.args.columns.now.specs.now c.args.columns.now.more.now (page_bytes c.args.page) c.args.i ≡ false =
    plain-unread c.args.columns.now.specs.now c.args.columns.now.more.now (page_bytes c.args.page) c.args.i _ c.requires.live
    (at_spot c.args.columns.now.specs.now c.args.columns.now.more.now (page_bytes c.args.page) c.args.i _ _ c.spot_of.ensures (sym c.in-Err.ensures.fault)) in
    absurd (let both : true ≡ false = sym (plain-each c.args.columns.now.specs.now c.args.columns.now.more.now (page_bytes c.args.page) c.args.i _ (omega (arith, c.if-i-eq0.false)) c.requires.last c.requires.plain) ∙ unread in cc)

pub returns-in-Ok : goal.returns-in-Ok
returns-in-Ok c =
    let keys = c.in-Ok.ensures.keys in
    let means : keys.item ≡ item_at c.args.columns.now.specs.now c.args.columns.now.more.now (page_bytes c.args.page) c.args.i =
    item-means c.args.columns.now.specs.now c.args.columns.now.more.now (page_bytes c.args.page) c.args.i c.requires.live _ (at_spot c.args.columns.now.specs.now c.args.columns.now.more.now (page_bytes c.args.page) c.args.i _ _ c.spot_of.ensures (sym keys.is)) in
    let key = c.keep_last.ensures ∙ keys.last in
    record {
      fits = subst (IsKeySeparator c.args.columns.now.specs.now) (sym key) (fits-last c.args.columns.now.specs.now keys.item keys.fits);
      key_is = λ from. key ∙ ap last_key means;
    }
