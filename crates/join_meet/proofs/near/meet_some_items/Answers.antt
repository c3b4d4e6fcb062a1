use Rattle.std.proofs.Common.{◌≡◌, ◌∙◌, ◌+◌, ◌-◌, ◌++◌, ◌≤◌, ℕ, suc, List, slice_index_or, ap, arith, subst, sym}
use Rattle.std.specs.List.{flat_map}
use Rattle.page_layout.specs.Page.{count_of}
use Rattle.page_layout.specs.View.{page_bytes}
use Rattle.key_attrs.specs.Columns.{tree_columns}
use Rattle.bt_image.specs.Image.{LeafEntry, entries_in, first_data, item_at, numbers_from, page_entries}
use Rattle.bt_steps.proofs.OnLeaf.{item-read, live-parts}
use Rattle.bt_steps.proofs.Places.{upto-two}
use Rattle.join_slots.specs.Slots.{Tables}
use Rattle.join_meet.specs.Meeting.{HaveMetSome, entries_at}
use Rattle.join_meet.proofs.Some.{some-all, some-none, some-part, some-same, some-then}
use Rattle.join_meet.proofs.near.meet_some_items.Goals as goal
use Rattle.join_meet.proofs.near.meet_some_items.Goals.{then-first-i+then-i-last, else-first-i}

pub loop-k-init : goal.loop-k-init
loop-k-init c = λ readable leaf. some-none (page_entries c.args.columns.now.specs.now c.args.columns.now.more.now (page_bytes c.args.page)) c.args.slots.now

pub loop-k-preserved : goal.loop-k-preserved
unfolding entries_at
loop-k-preserved c = λ readable leaf.
    let page = page_bytes c.args.page in
    let columns = tree_columns c.args.columns.now in
    let es : List LeafEntry = page_entries columns.specs columns.more page in
    let before : HaveMetSome es c.args.slots.now c.loop-k.slots = c.loop-k.invariant readable leaf in
    elim c.if-first-i.branch [
      | then-first-i+then-i-last w ↦
          let parts = live-parts page leaf in
          let keys : ℕ → List LeafEntry = λ n. entries_in (item_at columns.specs columns.more page n) in
          let first : ℕ = first_data page in
          let i : ℕ = slice_index_or c.args.items.now c.loop-k.k 0 in
          let from : first ≤ i = omega (arith, w.if-first-i.true, c.first_data-first.ensures) in
          let to : i ≤ count_of page = omega (arith, w.if-i-last.true, c.item_count-last.ensures.value) in
          let k : ℕ = i - first in
          let d : ℕ = count_of page - i in
          let at : first + k ≡ i = omega (arith, from) in
          let whole : count_of page + 1 - first ≡ k + suc d = omega (arith, from, to) in
          let split : flat_map keys (numbers_from first k) ++ (keys i ++ flat_map keys (numbers_from (suc (first + k)) d)) ≡ es =
          ap (λ (n : ℕ). flat_map keys (numbers_from first k) ++ (keys n ++ flat_map keys (numbers_from (suc (first + k)) d))) (sym at)
          ∙ sym (upto-two keys first k (suc d))
          ∙ ap (λ (n : ℕ). flat_map keys (numbers_from first n)) (sym whole) in
          let read = item-read columns page readable parts.0 parts.2 i from to in
          let here : HaveMetSome (keys i) c.loop-k.slots w.meet_item.new.slots = some-all (keys i) c.loop-k.slots w.meet_item.new.slots (w.meet_item.ensures read) in
          let of-page : HaveMetSome es c.loop-k.slots w.meet_item.new.slots =
          some-same _ es c.loop-k.slots w.meet_item.new.slots split
          (some-part (flat_map keys (numbers_from first k)) (keys i) (flat_map keys (numbers_from (suc (first + k)) d)) c.loop-k.slots w.meet_item.new.slots here) in
          subst (λ (t : Tables). HaveMetSome es c.args.slots.now t) (sym w.slots-is) (some-then es c.args.slots.now c.loop-k.slots w.meet_item.new.slots before of-page)
      | else-first-i w ↦ subst (λ (t : Tables). HaveMetSome es c.args.slots.now t) (sym w.slots-is) before
    ]
