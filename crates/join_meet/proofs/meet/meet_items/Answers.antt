use Rattle.std.proofs.Common.{◌≡◌, ◌∙◌, ◌+◌, ◌-◌, ◌++◌, ℕ, List, ap, append-nil, arith, subst, sym}
use Rattle.std.specs.List.{flat_map}
use Rattle.page_layout.specs.Page.{count_of}
use Rattle.page_layout.specs.View.{page_bytes}
use Rattle.key_attrs.specs.Columns.{tree_columns}
use Rattle.bt_image.specs.Image.{LeafEntry, entries_in, first_data, item_at, numbers_from}
use Rattle.bt_steps.proofs.OnLeaf.{item-read, live-parts}
use Rattle.bt_steps.proofs.Places.{upto-two}
use Rattle.join_meet.specs.Meeting.{HaveMet, entries_at}
use Rattle.join_meet.proofs.Meets.{met-then, none, same}
use Rattle.join_meet.proofs.meet.meet_items.Goals as goal

pub loop-k-init : goal.loop-k-init
loop-k-init c = λ readable leaf. none c.args.slots.now

pub loop-k-preserved : goal.loop-k-preserved
unfolding entries_at
loop-k-preserved c = λ readable leaf.
    let page = page_bytes c.args.page in
    let columns = tree_columns c.args.columns.now in
    let parts = live-parts page leaf in
    let k = c.loop-k.k in
    let keys : ℕ → List LeafEntry = λ i. entries_in (item_at columns.specs columns.more page i) in
    let from : c.first_data-first.result ≡ first_data page = c.first_data-first.ensures in
    let i : ℕ = first_data page + k in
    let here : c.first_data-first.result + k ≡ i = omega arith in
    let read = item-read columns page readable parts.0 parts.2 (c.first_data-first.result + k) (omega arith) (omega (arith, c.loop-k-test.true)) in
    let met : HaveMet (keys i) c.loop-k.slots c.meet_item.new.slots =
    subst (λ (n : ℕ). HaveMet (keys n) c.loop-k.slots c.meet_item.new.slots) here (c.meet_item.ensures read) in
    let next : flat_map keys (numbers_from (first_data page) (k + 1)) ≡ flat_map keys (numbers_from (first_data page) k) ++ keys i =
    upto-two keys (first_data page) k 1 ∙ ap (λ (l : List LeafEntry). flat_map keys (numbers_from (first_data page) k) ++ l) (append-nil (keys i)) in
    same (flat_map keys (numbers_from (first_data page) k) ++ keys i) (flat_map keys (numbers_from (first_data page) (k + 1))) c.args.slots.now c.meet_item.new.slots (sym next)
    (met-then (flat_map keys (numbers_from (first_data page) k)) (keys i) c.args.slots.now c.loop-k.slots c.meet_item.new.slots (c.loop-k.invariant readable leaf) met)

pub returns : goal.returns
returns c = λ readable leaf.
    let page = page_bytes c.args.page in
    let columns = tree_columns c.args.columns.now in
    let whole : c.loop-k.k ≡ count_of page + 1 - first_data page = omega (arith, c.loop-k-test.false, c.first_data-first.ensures) in
    subst (λ (n : ℕ). HaveMet (flat_map (λ i. entries_in (item_at columns.specs columns.more page i)) (numbers_from (first_data page) n)) c.args.slots.now c.loop-k.slots) whole (c.loop-k.invariant readable leaf)
