use Rattle.std.proofs.Common.{◌≡◌, ◌∙◌, ℕ, ap, sym, false, arith}
use Rattle.std.proofs.lemmas.Bool.{OnTrue_from, not-true}
use Rattle.page_layout.specs.Page.{count_of}
use Rattle.page_layout.specs.View.{page_bytes}
use Rattle.key_orders.specs.Separators.{separator_of}
use Rattle.bt_tuples.specs.Keys.{last_key}
use Rattle.bt_tuples.specs.Shown.{item_shown}
use Rattle.bt_image.specs.Image.{item_at, separator_in}
use Rattle.bt_image.specs.Pages.{breaks_high_key}
use Rattle.bt_pages.specs.Passes.{RiseTo}
use Rattle.bt_pages.proofs.Plain.{at_spot, fits-separator, item-means, plain-read}
use Rattle.bt_pages.proofs.Rising.{high_key-spot, rise-high_key, rise-pass}
use Rattle.bt_pages.proofs.quiet.has_plain_high_key.Goals as goal

pub last_key_at-last-requires-clause-plain : goal.last_key_at-last-requires-clause-plain
last_key_at-last-requires-clause-plain c =
    let specs = c.args.columns.now.specs.now in
    let more = c.args.columns.now.more.now in
    let page = page_bytes c.args.page in
    let read = at_spot specs more page 1 _ _ (high_key-spot page c.requires.high) c.in-Ok.ensures.outcome in
    (c.requires.rise (rise-high_key specs more page (plain-read specs more page 1 (item_shown c.in-Ok.item) c.requires.live read))).plain

pub breaks_high_key-requires-clause-high : goal.breaks_high_key-requires-clause-high
breaks_high_key-requires-clause-high c = rw c.separator_in.ensures (fits-separator c.args.columns.now.specs.now (item_shown c.in-Ok.item) c.in-Ok.ensures.fits)

pub returns-in-Ok : goal.returns-in-Ok
returns-in-Ok c =
    let specs = c.args.columns.now.specs.now in
    let more = c.args.columns.now.more.now in
    let page = page_bytes c.args.page in
    let read = at_spot specs more page 1 _ _ (high_key-spot page c.requires.high) c.in-Ok.ensures.outcome in
    let rise : RiseTo specs more page (count_of page) = c.requires.rise (rise-high_key specs more page (plain-read specs more page 1 (item_shown c.in-Ok.item) c.requires.live read)) in
    let last : separator_of c.last_key_at-last.result ≡ last_key (item_at specs more page (count_of page)) =
    c.last_key_at-last.ensures.key_is (omega (arith, c.requires.some, c.item_count.ensures.value))
    ∙ ap (λ (i : ℕ). last_key (item_at specs more page i)) c.item_count.ensures.value in
    let means : item_shown c.in-Ok.item ≡ item_at specs more page 1 = item-means specs more page 1 c.requires.live _ read in
    OnTrue_from _ _ (λ e.
    let within : breaks_high_key specs more page ≡ false = sym (c.breaks_high_key.ensures more last (c.separator_in.ensures ∙ ap separator_in means)) ∙ not-true _ e in
    rise-pass specs more page c.requires.live rise within)
