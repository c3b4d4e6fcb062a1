use Rattle.std.proofs.Common.{◌≡◌, ◌∙◌, ◌∷◌, [], ap, arith, get_or, subst, sym, List, ℕ}
use Rattle.std.specs.Prelude.{◌≢◌, None, Some}
use Rattle.std.proofs.lemmas.List.{get_or_default}
use Rattle.join_slots.specs.Slots.{AreKept, Tables, found_slot, keys_in, keys_of}
use Rattle.join_slots.proofs.SlotLaws.{found_below}
use Rattle.join_slots.proofs.PutLaws.{kept_grow, keys_grow, no_values}
use Rattle.join_slots.proofs.WholeLaws.{empty_slot, full_slot}
use Rattle.join_slots.proofs.rows.RowSlots.begin_row.Goals as goal

pub index-requires : goal.index-requires
index-requires c =
    let s = c.self.inside in
    let e : Some c.in-Some.slot ≡ found_slot s.first s.starts.items c.args.tid = c.in-Some.ensures ∙ ap (λ (xs : List ℕ). found_slot s.first xs c.args.tid) c.deref.ensures.value in
    omega (arith, found_below s.first s.starts.items s.records.items c.args.tid c.in-Some.slot c.self.invariant.0 e, s.records.ok.0)

pub invariant_of-self-2 : goal.invariant_of-self-2
invariant_of-self-2 c =
    let s = c.self.inside in (
      c.self.invariant.0,
      c.self.invariant.1,
      subst (AreKept s.records.items) (sym c.in_ok-row.ensures.arena) (kept_grow s.records.items s.arena.items (c.args.count ∷ []) c.self.invariant.2),
    )

pub returns-clause-begun : goal.returns-clause-begun
returns-clause-begun c =
    let s = c.self.inside in
    let slot = c.in-Some.slot in
    let none = c.if-index-ne0.false in
    let e : Some slot ≡ found_slot s.first s.starts.items c.args.tid = c.in-Some.ensures ∙ ap (λ (xs : List ℕ). found_slot s.first xs c.args.tid) c.deref.ensures.value in
    let empty : get_or s.records.items slot 0 ≡ 0 = subst (λ (d : ℕ). get_or s.records.items slot d ≡ 0) none (sym c.index.ensures ∙ none) in
    no_values _ c.in_ok-row.row c.args.tid s.arena.items c.args.count
    (ap Some c.in_ok-row.ensures.slot ∙ e) (ap (λ k. get_or s.records.items k 0) c.in_ok-row.ensures.slot ∙ empty) c.in_ok-row.ensures.place c.in_ok-row.ensures.low c.in_ok-row.ensures.arena

pub returns-clause-fresh : goal.returns-clause-fresh
returns-clause-fresh c =
    let s = c.self.inside in
    let slot = c.in-Some.slot in
    let none = c.if-index-ne0.false in
    let e : Some slot ≡ found_slot s.first s.starts.items c.args.tid = c.in-Some.ensures ∙ ap (λ (xs : List ℕ). found_slot s.first xs c.args.tid) c.deref.ensures.value in
    let empty : get_or s.records.items slot 0 ≡ 0 = subst (λ (d : ℕ). get_or s.records.items slot d ≡ 0) none (sym c.index.ensures ∙ none) in
    subst (λ (t : Tables). keys_in t c.args.tid ≡ None) c.self.view_is
    (empty_slot s.first s.starts.items s.records.items s.arena.items c.args.tid slot e empty)

pub returns-clause-keys : goal.returns-clause-keys
returns-clause-keys c =
    let s = c.self.inside in
    (λ i. keys_of s.first s.starts.items s.records.items (c.in_ok-row.ensures.arena i))
    ∙ keys_grow s.first s.starts.items s.records.items s.arena.items (c.args.count ∷ []) c.self.invariant.2
    ∙ ap keys_in c.self.view_is

pub returns-then-index-ne0-clause-none : goal.returns-then-index-ne0-clause-none
returns-then-index-ne0-clause-none c = λ none has.
    let s = c.self.inside in
    let slot = c.in-Some.slot in
    let e : Some slot ≡ found_slot s.first s.starts.items c.args.tid = c.in-Some.ensures ∙ ap (λ (xs : List ℕ). found_slot s.first xs c.args.tid) c.deref.ensures.value in
    let low = found_below s.first s.starts.items s.records.items c.args.tid slot c.self.invariant.0 e in
    subst (λ (t : Tables). keys_in t c.args.tid ≢ None) c.self.view_is
    (full_slot s.first s.starts.items s.records.items s.arena.items c.args.tid slot e (λ empty. c.if-index-ne0.true (c.index.ensures ∙ get_or_default s.records.items slot _ 0 low ∙ empty)))
