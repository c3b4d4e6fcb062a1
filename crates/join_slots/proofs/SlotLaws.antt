-- Slots: which line pointers have one, that each has its own, and what is read of them.
use Rattle.std.proofs.Common.{◌≡◌, ◌∙◌, ℕ, ◌+◌, ◌-◌, ◌<◌, ◌≤◌, Bool, true, false, List, length, get_or, refl, ap, sym, arith, inl, inr}
use Rattle.std.specs.Prelude.{cond, ◌&&◌, ◌||◌, ◌==◌, nat_le, nat_lt, Option, Some, None}
use Rattle.std.proofs.lemmas.Bool.{and_left, and_right, cases_lt, cases_eq, le-leb, le-ltb, lt-leb, lt-ltb, leb-true, eq-eqb, eqb-true, ne_eqb}
use Rattle.key_orders.specs.declared.Tid.{Tid}
use Rattle.key_orders.specs.declared.columns.Value.{Value}
use Rattle.page_layout.specs.Bits.{is_set}
use Rattle.join_slots.specs.Met.{Keys, Mets, keyed, is_key, meets, met_by, same_tid}
use Rattle.join_slots.specs.Slots.{AreBits, AreStarts, start_of, next_of, is_within, slot_of, found_slot, key_of, keys_of, mets_of}

pub both : (a b : Bool) → (a && b) ≡ true → (a ≡ true) × (b ≡ true)
both true b h = (refl, h)
both false true h = (h, refl)
both false false h = (h, h)

-- what it is to have a slot
pub record Within (first : ℕ) (starts : List ℕ) (tid : Tid) : Type 0 where
  pub low : first ≤ tid.block
  pub high : tid.block - first + 1 < length starts
  pub item : 1 ≤ tid.item
  pub fits : start_of first starts tid + tid.item ≤ next_of first starts tid

all_hold : (a b c d : Bool) → a ≡ true → b ≡ true → c ≡ true → d ≡ true → (a && (b && (c && d))) ≡ true
all_hold a b c d p q r s = rw (p, q, r) s

pub within_is : (first : ℕ) (starts : List ℕ) (tid : Tid) → Within first starts tid → is_within first starts tid ≡ true
unfolding is_within
within_is first starts tid w = all_hold _ _ _ _ (le-leb _ _ w.low) (lt-ltb _ _ w.high) (le-leb _ _ w.item) (le-leb _ _ w.fits)

pub is_within_tells : (first : ℕ) (starts : List ℕ) (tid : Tid) → is_within first starts tid ≡ true → Within first starts tid
unfolding is_within
is_within_tells first starts tid h =
    let a = both _ _ h in
    let b = both _ _ a.1 in
    let c = both _ _ b.1 in
    record { low = leb-true _ _ a.0; high = leb-true _ _ b.0; item = leb-true _ _ c.0; fits = leb-true _ _ c.1 }

none_found : (first : ℕ) (starts : List ℕ) (tid : Tid) → is_within first starts tid ≡ false → None ≡ found_slot first starts tid
none_found first starts tid h = ap (λ (t : Bool). cond t (Some (slot_of first starts tid)) None) (sym h)

pub before_first : (first : ℕ) (starts : List ℕ) (tid : Tid) → tid.block < first → None ≡ found_slot first starts tid
unfolding is_within
before_first first starts tid h = none_found first starts tid (and_left _ _ (lt-leb _ _ h))

pub no_item : (first : ℕ) (starts : List ℕ) (tid : Tid) → tid.item ≡ 0 → None ≡ found_slot first starts tid
unfolding is_within
no_item first starts tid h =
    none_found first starts tid
    (and_right (nat_le first tid.block) _ (and_right (nat_lt (tid.block - first + 1) (length starts)) _ (and_left _ _ (lt-leb 1 tid.item (omega arith)))))

pub no_block : (first : ℕ) (starts : List ℕ) (tid : Tid) → length starts ≤ tid.block - first + 1 → None ≡ found_slot first starts tid
unfolding is_within
no_block first starts tid h = none_found first starts tid (and_right (nat_le first tid.block) _ (and_left _ _ (le-ltb _ _ h)))

pub item_past : (first : ℕ) (starts : List ℕ) (tid : Tid) → next_of first starts tid < start_of first starts tid + tid.item → None ≡ found_slot first starts tid
unfolding is_within
item_past first starts tid h =
    none_found first starts tid
    (and_right (nat_le first tid.block) _ (and_right (nat_lt (tid.block - first + 1) (length starts)) _ (and_right (nat_le 1 tid.item) _ (lt-leb _ _ h))))

pub slot_found : (first : ℕ) (starts : List ℕ) (tid : Tid) → Within first starts tid → Some (slot_of first starts tid) ≡ found_slot first starts tid
slot_found first starts tid w = ap (λ (t : Bool). cond t (Some (slot_of first starts tid)) None) (sym (within_is first starts tid w))

abbrev get : ℕ → Option ℕ → ℕ
get d (Some x) = x
get d None = d

abbrev pub mark : Option ℕ → ℕ
mark (Some x) = 1
mark None = 0

some_inj : {a b : ℕ} → Some a ≡ Some b → a ≡ b
some_inj e = ap (get 0) e

-- the answer of a search
pub found_some : (first : ℕ) (starts : List ℕ) (tid : Tid) (slot : ℕ) → Some slot ≡ found_slot first starts tid → (is_within first starts tid ≡ true) × (slot ≡ slot_of first starts tid)
found_some first starts tid slot = by (is_within first starts tid)
  where
    by : (t : Bool) → Some slot ≡ cond t (Some (slot_of first starts tid)) None → (t ≡ true) × (slot ≡ slot_of first starts tid)
    by true e = (refl, some_inj e)
    by false e = absurd (omega (arith, ap mark e))

-- each line pointer has a slot of its own

within_next : (first : ℕ) (starts records : List ℕ) (a b : Tid) → AreStarts starts records → Within first starts a → Within first starts b
    → a.block < b.block → slot_of first starts a < slot_of first starts b
within_next first starts records a b are wa wb lt =
    let up = are.ordered (a.block - first + 1) (b.block - first) (omega (arith, wa.low, wb.low)) (omega (arith, wb.high)) in
    omega (arith, up, wa.item, wb.item, wa.fits, wb.fits)

pub apart : (first : ℕ) (starts records : List ℕ) (a b : Tid) → AreStarts starts records → Within first starts a → Within first starts b
    → slot_of first starts a ≡ slot_of first starts b → (a.block ≡ b.block) × (a.item ≡ b.item)
apart first starts records a b are wa wb same =
    elim (cases_lt a.block b.block) [
      | inl lt ↦ absurd (omega (arith, within_next first starts records a b are wa wb lt, same))
      | inr ge ↦ elim (cases_lt b.block a.block) [
        | inl lt ↦ absurd (omega (arith, within_next first starts records b a are wb wa lt, same))
        | inr le ↦
            let e : a.block ≡ b.block = omega arith in
            let s : start_of first starts a ≡ start_of first starts b = ap (λ k. get_or starts (k - first) 0) e in
            (e, omega (arith, s, same, wa.item, wb.item))
      ]
    ]

pub below : (first : ℕ) (starts records : List ℕ) (tid : Tid) → AreStarts starts records → Within first starts tid → slot_of first starts tid < length records
below first starts records tid are w =
    omega (arith, are.ordered (tid.block - first + 1) (length starts - 1) (omega (arith, w.high)) (omega (arith, w.high)), are.end, w.item, w.fits)

pub slot_test : (first : ℕ) (starts records : List ℕ) (a b : Tid) → AreStarts starts records → Within first starts a → Within first starts b
    → (slot_of first starts a == slot_of first starts b) ≡ same_tid a b
slot_test first starts records a b are wa wb =
    elim (cases_eq (slot_of first starts a) (slot_of first starts b)) [
      | inl same ↦
          let e = apart first starts records a b are wa wb same in
          eq-eqb _ _ same ∙ sym (rw (eq-eqb _ _ e.0, eq-eqb _ _ e.1) refl)
      | inr other ↦ ne_eqb _ _ other ∙ sym (tids_differ (λ e. other (λ i. get_or starts (e.0 i - first) 0 + e.1 i - 1)))
    ]
  where
    tids_differ : ((a.block ≡ b.block) × (a.item ≡ b.item) → ⊥) → same_tid a b ≡ false
    tids_differ n = elim (cases_eq a.block b.block) [
      | inl e ↦ and_right _ _ (ne_eqb _ _ (λ f. n (e, f)))
      | inr d ↦ and_left _ _ (ne_eqb _ _ d)
    ]

-- what is met

or_false : (a b : Bool) → b ≡ false → (a || b) ≡ a
or_false true b e = refl
or_false false b e = e

or_swap : (a b : Bool) → (a || b) ≡ (b || a)
or_swap true true = refl
or_swap true false = refl
or_swap false true = refl
or_swap false false = refl

pub tid_is : (a b : Tid) → same_tid a b ≡ true → a ≡ b
tid_is a b h = let e = both (a.block == b.block) (a.item == b.item) h in λ i. record { block = eqb-true a.block b.block e.0 i; item = eqb-true a.item b.item e.1 i }

-- where the key isn't that of the entry, nothing is met
pub not_met : (keys : Keys) (met : Mets) (tid : Tid) (key : List Value) → is_key key (keys tid) ≡ false → met ≡ met_by keys met (keyed tid key)
unfolding met_by
not_met keys met tid key other = λ i t. sym (or_false (met t) _ (at t (same_tid t tid) refl)) i
  where
    at : (t : Tid) (b : Bool) → same_tid t tid ≡ b → meets keys (keyed tid key) t ≡ false
    at t false e = and_left _ _ e
    at t true e = and_right _ _ (ap (λ x. is_key key (keys x)) (tid_is t tid e) ∙ other)

pub no_slot_no_key : (first : ℕ) (starts records arena : List ℕ) (tid : Tid) (key : List Value) → None ≡ found_slot first starts tid → is_key key (keys_of first starts records arena tid) ≡ false
unfolding keys_of
no_slot_no_key first starts records arena tid key e = by (is_within first starts tid) (key_of arena (get_or records (slot_of first starts tid) 0)) e
  where
    by : (t : Bool) (held : Option (List Value)) → None ≡ cond t (Some (slot_of first starts tid)) None → is_key key (cond t held None) ≡ false
    by false held e = refl
    by true held e = absurd (omega (arith, ap mark e))

pub key_there : (first : ℕ) (starts records arena : List ℕ) (tid : Tid) (slot : ℕ) → Some slot ≡ found_slot first starts tid → keys_of first starts records arena tid ≡ key_of arena (get_or records slot 0)
unfolding keys_of
key_there first starts records arena tid slot e =
    let f = found_some first starts tid slot e in
    (λ i. cond (f.0 i) (key_of arena (get_or records (slot_of first starts tid) 0)) None) ∙ ap (λ k. key_of arena (get_or records k 0)) (sym f.1)

-- where it is, its slot's bit says so
pub now_met : (first : ℕ) (starts records arena bits new : List ℕ) (tid : Tid) (key : List Value) (slot : ℕ)
    → AreStarts starts records
    → Some slot ≡ found_slot first starts tid
    → is_key key (keys_of first starts records arena tid) ≡ true
    → ((p : ℕ) → is_set new p ≡ ((p == slot) || is_set bits p))
    → mets_of first starts new ≡ met_by (keys_of first starts records arena) (mets_of first starts bits) (keyed tid key)
unfolding mets_of met_by
now_met first starts records arena bits new tid key slot are e same set = λ i t. at t (is_within first starts t) refl i
  where
    keys : Keys
    keys = keys_of first starts records arena

    here : Within first starts tid
    here = is_within_tells first starts tid (found_some first starts tid slot e).0

    slot_is : slot ≡ slot_of first starts tid
    slot_is = (found_some first starts tid slot e).1

    hits : (t : Tid) → same_tid t tid ≡ meets keys (keyed tid key) t
    hits t = by (same_tid t tid) refl
      where
        by : (b : Bool) → same_tid t tid ≡ b → same_tid t tid ≡ meets keys (keyed tid key) t
        by false h = h ∙ sym (and_left _ _ h)
        by true h = h ∙ sym (ap (λ x. x && is_key key (keys t)) h ∙ (ap (λ x. is_key key (keys x)) (tid_is t tid h) ∙ same))

    misses : (t : Tid) → is_within first starts t ≡ false → same_tid t tid ≡ false
    misses t out = by (same_tid t tid) refl
      where
        by : (b : Bool) → same_tid t tid ≡ b → same_tid t tid ≡ false
        by false h = h
        by true h = h ∙ (sym (found_some first starts tid slot e).0 ∙ (ap (is_within first starts) (sym (tid_is t tid h)) ∙ out))

    at : (t : Tid) (b : Bool) → is_within first starts t ≡ b
        → (is_within first starts t && is_set new (slot_of first starts t)) ≡ ((is_within first starts t && is_set bits (slot_of first starts t)) || meets keys (keyed tid key) t)
    at t false out =
        and_left _ _ out
        ∙ sym (or_false _ _ (sym (hits t) ∙ misses t out) ∙ and_left _ _ out)
    at t true within =
        ap (λ w. w && is_set new (slot_of first starts t)) within
        ∙ (set (slot_of first starts t)
        ∙ (ap (λ k. (slot_of first starts t == k) || is_set bits (slot_of first starts t)) slot_is
        ∙ (ap (λ w. w || is_set bits (slot_of first starts t)) (slot_test first starts records t tid are (is_within_tells first starts t within) here ∙ hits t)
        ∙ (or_swap (meets keys (keyed tid key) t) (is_set bits (slot_of first starts t))
        ∙ ap (λ w. (w && is_set bits (slot_of first starts t)) || meets keys (keyed tid key) t) (sym within)))))

-- a slot that was found

pub found_below : (first : ℕ) (starts records : List ℕ) (tid : Tid) (slot : ℕ) → AreStarts starts records → Some slot ≡ found_slot first starts tid → slot < length records
found_below first starts records tid slot are e =
    let f = found_some first starts tid slot e in
    omega (arith, f.1, below first starts records tid are (is_within_tells first starts tid f.0))

pub met_there : (first : ℕ) (starts bits : List ℕ) (tid : Tid) (slot : ℕ) → Some slot ≡ found_slot first starts tid → is_set bits slot ≡ mets_of first starts bits tid
unfolding mets_of
met_there first starts bits tid slot e =
    let f = found_some first starts tid slot e in
    ap (is_set bits) f.1 ∙ sym (ap (λ w. w && is_set bits (slot_of first starts tid)) f.0)

pub met_nowhere : (first : ℕ) (starts bits : List ℕ) (tid : Tid) → None ≡ found_slot first starts tid → false ≡ mets_of first starts bits tid
unfolding mets_of
met_nowhere first starts bits tid e = by (is_within first starts tid) e
  where
    by : (t : Bool) → None ≡ cond t (Some (slot_of first starts tid)) None → false ≡ (t && is_set bits (slot_of first starts tid))
    by false e = refl
    by true e = absurd (omega (arith, ap mark e))

pub bits_still : (records bits new : List ℕ) (slot : ℕ) → AreBits records bits → slot < length records → length new ≡ length bits
    → ((p : ℕ) → is_set new p ≡ ((p == slot) || is_set bits p)) → AreBits records new
bits_still records bits new slot are within same set = record {
  room = omega (arith, are.room);
  clear = λ p past. set p ∙ (ap (λ w. w || is_set bits p) (ne_eqb p slot (λ e. omega arith)) ∙ are.clear p past);
}
