use Rattle.std.proofs.Common.{◌≡◌, ◌∙◌, ◌≤◌, ap, ◌-◌, arith, get_or, inl, inr, length, refl, subst, sym, List, ℕ}
use Rattle.std.specs.Prelude.{None}
use Rattle.std.proofs.lemmas.Bool.{cases_eq}
use Rattle.std.proofs.lemmas.List.{with_items_is}
use Rattle.key_orders.specs.declared.columns.Value.{Value}
use Rattle.key_storage.specs.RowLists.{keys_read}
use Rattle.join_slots.specs.BlockRows.{AreFree, AreSlots, key_at, rows_at}
use Rattle.join_slots.specs.Slots.{Tables, has_in, is_item_of, keys_in, keys_of, keys_with_rows}
use Rattle.join_slots.proofs.BlockRowLaws.{block_fresh, block_rows, count_read, slots_are, slots_free}
use Rattle.join_slots.proofs.rows.RowSlots.keep_rows.Goals as goal

pub returns-in_default-clause-refused : goal.returns-in_default-clause-refused
returns-in_default-clause-refused c = λ no_row all.
    let rows : List (List Value) = c.args.rows.now in
    let held = c.as_bytes-rows.result in
    let count : length rows ≡ length held.starts.now = count_read held.starts.now held.bytes.now rows c.as_bytes-rows.ensures.keys in
    elim (cases_eq (length rows) 0) [
      | inl none ↦ none
      | inr some ↦
          let s = c.self.inside in
          let least : 1 ≤ length rows = omega (arith, some) in
          let slot : ℕ = get_or s.starts.items (c.args.block - s.first) 0 in
          let slots = slots_are s.first s.starts.items c.args.block (length rows) least (λ t item. ap (λ (x : Tables). has_in x t) c.self.view_is ∙ (all t item).0) in
          absurd (c.in_default.ensures.none refl slot
          (subst (λ (n : ℕ). AreSlots s.first c.deref.result.now c.args.block n slot) count
          (subst (λ (xs : List ℕ). AreSlots s.first xs c.args.block (length rows) slot) (sym c.deref.ensures.value) slots)))
    ]

pub returns-then-not-are_free-clause-refused : goal.returns-then-not-are_free-clause-refused
returns-then-not-are_free-clause-refused c = λ no_row all.
    let s = c.self.inside in
    let rows : List (List Value) = c.args.rows.now in
    let held = c.as_bytes-rows.result in
    let n : ℕ = length held.starts.now in
    let count : length rows ≡ n = count_read held.starts.now held.bytes.now rows c.as_bytes-rows.ensures.keys in
    let slots = subst (λ (xs : List ℕ). AreSlots s.first xs c.args.block n c.in-Some.slot) c.deref.ensures.value c.in-Some.ensures.some in
    let free = slots_free s.first s.starts.items s.records.items s.arena.items c.args.block n c.in-Some.slot c.self.invariant.0 slots
    (λ t item. ap (λ (x : Tables). keys_in x t) c.self.view_is ∙ (all t (ap (λ (m : ℕ). is_item_of c.args.block m t) count ∙ item)).1) in
    absurd (c.if-not-are_free.ensures.used (subst (λ (xs : List ℕ). AreFree xs c.in-Some.slot n) (sym c.deref-2.ensures.value) free))

pub returns-clause-kept : goal.returns-clause-kept
returns-clause-kept c = λ yes_kept.
    let s = c.self.inside in
    let rows : List (List Value) = c.args.rows.now in
    let held = c.as_bytes-rows.result in
    let n : ℕ = length held.starts.now in
    let is : keys_read held.starts.now held.bytes.now ≡ rows = c.as_bytes-rows.ensures.keys in
    let count : length rows ≡ n = count_read held.starts.now held.bytes.now rows is in
    let slots = subst (λ (xs : List ℕ). AreSlots s.first xs c.args.block n c.in-Some.slot) c.deref.ensures.value c.in-Some.ensures.some in
    let long : length c.keep_in.new.records ≡ s.records.len = omega (arith, c.keep_in.auto.records, c.deref_mut.ensures.len) in
    (λ i. keys_of s.first s.starts.items (with_items_is s.records c.keep_in.new.records long i) c.keep_in.new.arena.items)
    ∙ block_rows s.first s.starts.items s.records.items c.args.block n c.in-Some.slot c.self.invariant.0 slots
    s.arena.items rows c.keep_in.new.records c.keep_in.new.arena.items (sym count)
    (λ k. subst (λ (rs : List (List Value)). key_at c.keep_in.new.records c.keep_in.new.arena.items k ≡ rows_at s.records.items s.arena.items c.in-Some.slot rs n k) is
    (subst (λ (xs : List ℕ). key_at c.keep_in.new.records c.keep_in.new.arena.items k ≡ rows_at xs s.arena.items c.in-Some.slot (keys_read held.starts.now held.bytes.now) n k) c.deref_mut.ensures.value (c.in_ok-keep_in.ensures.keys k)))
    ∙ ap (λ (t : Tables). keys_with_rows (keys_in t) c.args.block rows) c.self.view_is

pub returns-clause-fresh : goal.returns-clause-fresh
returns-clause-fresh c = λ yes_kept tid item.
    let s = c.self.inside in
    let rows : List (List Value) = c.args.rows.now in
    let held = c.as_bytes-rows.result in
    let n : ℕ = length held.starts.now in
    let count : length rows ≡ n = count_read held.starts.now held.bytes.now rows c.as_bytes-rows.ensures.keys in
    let slots = subst (λ (xs : List ℕ). AreSlots s.first xs c.args.block n c.in-Some.slot) c.deref.ensures.value c.in-Some.ensures.some in
    let free = subst (λ (xs : List ℕ). AreFree xs c.in-Some.slot n) c.deref-2.ensures.value c.if-not-are_free.ensures.free in
    subst (λ (t : Tables). keys_in t tid ≡ None) c.self.view_is
    (block_fresh s.first s.starts.items s.records.items c.args.block n c.in-Some.slot c.self.invariant.0 slots s.arena.items free tid (ap (λ (m : ℕ). is_item_of c.args.block m tid) (sym count) ∙ item))
