-- A key that is put behind the others.
use Rattle.std.proofs.Common.{◌≡◌, ◌∙◌, ℕ, ◌+◌, ◌-◌, ◌<◌, ◌≤◌, Bool, true, false, List, [], ◌∷◌, ◌++◌, length, get_or, drop, take, refl, ap, sym, subst, arith, inl, inr, append_assoc, append-nil}
use Rattle.std.proofs.Common.{get_or-set_other, get_or-set_same}
use Rattle.std.specs.Prelude.{◌≢◌, cond, Some, None, slice_set}
use Rattle.std.proofs.lemmas.Bool.{cases_eq, cases_lt, eq-eqb, le-ltb, lt-ltb, ne_eqb}
use Rattle.std.specs.List.{flat_map}
use Rattle.std.proofs.lemmas.List.{drop_all, length-set, take_all}
use Rattle.std.proofs.lemmas.List.Concat.{flat_map-append}
use Rattle.std.proofs.lemmas.List.Elements.{All-append, All-cons, All-nil}
use Rattle.key_orders.specs.declared.Tid.{Tid}
use Rattle.key_orders.specs.declared.columns.Value.{Value}
use Rattle.key_storage.specs.RowLists.{LiesAt, NUMBERS, number_bytes}
use Rattle.key_storage.specs.Stored.{IsStorable, key_read, stored_key, stored_value}
use Rattle.key_storage.proofs.RowLaws.{lies_more, read_there}
use Rattle.join_slots.specs.Met.{same_tid}
use Rattle.join_slots.specs.declared.slots.BegunRow.{BegunRow}
use Rattle.join_slots.specs.Slots.{AreBits, AreKept, AreStarts, IsBegunRow, Tables, found_slot, is_within, key_of, keys_of, keys_with, slot_bytes, slot_of}
use Rattle.join_slots.proofs.SlotLaws.{Within, found_below, found_some, is_within_tells, slot_test, tid_is}

abbrev as_number : Bool → ℕ
as_number true = 1
as_number false = 0

-- a slot with a place
pub in_arena : (arena : List ℕ) (r : ℕ) → r < NUMBERS → slot_bytes arena r ≡ drop (r - 1) arena
in_arena arena r low = ap (λ (b : Bool). cond b (drop (r - 1) arena) (number_bytes (r - NUMBERS))) (lt-ltb r NUMBERS low)

-- a slot with a number
pub in_slot : (arena : List ℕ) (r : ℕ) → NUMBERS ≤ r → slot_bytes arena r ≡ number_bytes (r - NUMBERS)
in_slot arena r high = ap (λ (b : Bool). cond b (drop (r - 1) arena) (number_bytes (r - NUMBERS))) (le-ltb r NUMBERS high)

pub key_some : (arena : List ℕ) (r : ℕ) → r ≢ 0 → key_of arena r ≡ Some (key_read (slot_bytes arena r))
unfolding key_of
key_some arena r some = ap (λ b. cond b None (Some (key_read (slot_bytes arena r)))) (ne_eqb r 0 some)

pub key_of_some : (arena : List ℕ) (r : ℕ) (lies : LiesAt arena r) → r + 1 < NUMBERS → key_of arena (r + 1) ≡ Some lies.key
key_of_some arena r lies low =
    let back : r + 1 - 1 ≡ r = omega arith in
    key_some arena (r + 1) (λ e. omega arith)
    ∙ ap (λ k. Some (key_read k)) (in_arena arena (r + 1) low ∙ ap (λ k. drop k arena) back)
    ∙ ap (λ k. Some k) (read_there arena r lies)

-- that of a number
pub key_of_number : (arena : List ℕ) (n : ℕ) → key_of arena (NUMBERS + n) ≡ Some (key_read (number_bytes n))
key_of_number arena n =
    let back : NUMBERS + n - NUMBERS ≡ n = omega arith in
    key_some arena (NUMBERS + n) (λ e. omega arith)
    ∙ ap (λ k. Some (key_read k)) (in_slot arena (NUMBERS + n) (omega arith) ∙ ap number_bytes back)

none_more : (arena more : List ℕ) → key_of (arena ++ more) 0 ≡ key_of arena 0
unfolding key_of
none_more arena more = refl

-- what was kept
pub still : (records arena more : List ℕ) (k : ℕ) → AreKept records arena → key_of (arena ++ more) (get_or records k 0) ≡ key_of arena (get_or records k 0)
unfolding AreKept
still records arena more k kept = elim (cases_eq (get_or records k 0) 0) [
  | inl none ↦ (λ i. key_of (arena ++ more) (none i)) ∙ (none_more arena more ∙ (λ i. key_of arena (sym none i)))
  | inr some ↦ elim (cases_lt (get_or records k 0) NUMBERS) [
    | inl low ↦
        let r : ℕ = get_or records k 0 - 1 in
        let e : get_or records k 0 ≡ r + 1 = omega arith in
        let less : r + 1 < NUMBERS = omega arith in
        let lies : LiesAt arena r = kept k r e less in
        (λ i. key_of (arena ++ more) (e i))
        ∙ (key_of_some (arena ++ more) r (lies_more arena more r lies) less
        ∙ (sym (key_of_some arena r lies less) ∙ (λ i. key_of arena (sym e i))))
    | inr high ↦
        let n : ℕ = get_or records k 0 - NUMBERS in
        let e : get_or records k 0 ≡ NUMBERS + n = omega arith in
        (λ i. key_of (arena ++ more) (e i))
        ∙ (key_of_number (arena ++ more) n ∙ (sym (key_of_number arena n) ∙ (λ i. key_of arena (sym e i))))
  ]
]

-- bytes that come behind change nothing of it
pub kept_grow : (records arena more : List ℕ) → AreKept records arena → AreKept records (arena ++ more)
unfolding AreKept
kept_grow records arena more kept = λ k r e low. lies_more arena more r (kept k r e low)

pub keys_grow : (first : ℕ) (starts records arena more : List ℕ) → AreKept records arena
    → keys_of first starts records (arena ++ more) ≡ keys_of first starts records arena
unfolding keys_of
keys_grow first starts records arena more kept = λ i t. cond (is_within first starts t) (still records arena more (slot_of first starts t) kept i) None

-- A row that is begun, and kept

pub no_values : (t : Tables) (row : BegunRow) (tid : Tid) (before : List ℕ) (count : ℕ) → Some row.slot ≡ found_slot t.first t.starts tid
    → get_or t.records row.slot 0 ≡ 0 → row.place ≡ length before + 1 → row.place < NUMBERS → t.arena ≡ before ++ count ∷ [] → IsBegunRow t row tid count []
no_values t row tid before count slot free place low bytes = record {
  slot_is = slot;
  free = free;
  before = before;
  place_is = place;
  low = low;
  storable = All-nil IsStorable;
  bytes = bytes;
}

pub one_value : (t : Tables) (arena : List ℕ) (row : BegunRow) (tid : Tid) (count : ℕ) (values : List Value) (v : Value) → IsStorable v
    → arena ≡ t.arena ++ stored_value v → IsBegunRow t row tid count values → IsBegunRow (record t { arena = arena }) row tid count (values ++ v ∷ [])
one_value t arena row tid count values v storable is begun = record {
  slot_is = begun.slot_is;
  free = begun.free;
  before = begun.before;
  place_is = begun.place_is;
  low = begun.low;
  storable = All-append IsStorable values (v ∷ []) begun.storable (All-cons IsStorable v [] storable (All-nil IsStorable));
  bytes =
      is ∙ ap (λ w. w ++ stored_value v) begun.bytes
      ∙ append_assoc begun.before (count ∷ flat_map stored_value values) (stored_value v)
      ∙ ap (λ w. begun.before ++ (count ∷ w)) (sym (flat_map-append stored_value values (v ∷ []) ∙ ap (λ w. flat_map stored_value values ++ w) (append-nil (stored_value v))));
}

abbrev pub lies_written : (t : Tables) (row : BegunRow) (tid : Tid) (values : List Value) (begun : IsBegunRow t row tid (length values) values) → LiesAt t.arena (length begun.before)
lies_written t row tid values begun = record {
  before = begun.before;
  key = values;
  rest = [];
  storable = begun.storable;
  at_is = refl;
  bytes = begun.bytes ∙ ap (λ w. begun.before ++ w) (sym (append-nil (stored_key values)));
}

pub kept_set : (records arena : List ℕ) (slot place r : ℕ) → slot < length records → place ≡ r + 1 → LiesAt arena r
    → AreKept records arena → AreKept (slice_set records slot place) arena
unfolding AreKept
kept_set records arena slot place r within is lies kept = λ k q e low. elim (cases_eq k slot) [
  | inl same ↦
      let here : get_or (slice_set records slot place) k 0 ≡ place = ap (λ j. get_or (slice_set records slot place) j 0) same ∙ get_or-set_same records slot place 0 within in
      let there : r ≡ q = omega arith in
      subst (LiesAt arena) there lies
  | inr other ↦ kept k q (sym (get_or-set_other records slot k place 0 other) ∙ e) low
]

pub kept_with_number : (records arena : List ℕ) (slot n : ℕ) → slot < length records → AreKept records arena → AreKept (slice_set records slot (NUMBERS + n)) arena
unfolding AreKept
kept_with_number records arena slot n within kept = λ k q e low. elim (cases_eq k slot) [
  | inl same ↦
      let here : get_or (slice_set records slot (NUMBERS + n)) k 0 ≡ NUMBERS + n = ap (λ j. get_or (slice_set records slot (NUMBERS + n)) j 0) same ∙ get_or-set_same records slot (NUMBERS + n) 0 within in
      absurd (omega (arith, low))
  | inr other ↦ kept k q (sym (get_or-set_other records slot k (NUMBERS + n) 0 other) ∙ e) low
]

pub keys_set : (first : ℕ) (starts records arena : List ℕ) (tid : Tid) (slot place r : ℕ) → AreStarts starts records
    → Some slot ≡ found_slot first starts tid → place ≡ r + 1 → place < NUMBERS → (lies : LiesAt arena r)
    → keys_of first starts (slice_set records slot place) arena ≡ keys_with (keys_of first starts records arena) tid lies.key
unfolding keys_of
keys_set first starts records arena tid slot place r are e place_is low lies = λ i t. by t (is_within first starts t) refl i
  where
    new : List ℕ
    new = slice_set records slot place

    fact : (is_within first starts tid ≡ true) × (slot ≡ slot_of first starts tid)
    fact = found_some first starts tid slot e

    here : Within first starts tid
    here = is_within_tells first starts tid fact.0

    misses : (t : Tid) → is_within first starts t ≡ false → same_tid t tid ≡ false
    misses t out = at_test (same_tid t tid) refl
      where
        at_test : (b : Bool) → same_tid t tid ≡ b → same_tid t tid ≡ false
        at_test false h = h
        at_test true h = h ∙ (sym fact.0 ∙ (ap (is_within first starts) (sym (tid_is t tid h)) ∙ out))

    value : key_of arena (get_or new slot 0) ≡ Some lies.key
    value =
        (λ i. key_of arena ((get_or-set_same records slot place 0 (found_below first starts records tid slot are e) ∙ place_is) i))
        ∙ key_of_some arena r lies (omega (arith, place_is, low))

    differs : (t : Tid) → Within first starts t → same_tid t tid ≡ false → slot_of first starts t ≡ slot → ⊥
    differs t w h same =
        let it = sym (eq-eqb (slot_of first starts t) (slot_of first starts tid) (same ∙ fact.1)) ∙ (slot_test first starts records t tid are w here ∙ h) in
        absurd (omega (arith, ap as_number it))

    inside : (t : Tid) → Within first starts t → (b : Bool) → same_tid t tid ≡ b
        → key_of arena (get_or new (slot_of first starts t) 0) ≡ cond (same_tid t tid) (Some lies.key) (key_of arena (get_or records (slot_of first starts t) 0))
    inside t w true h =
        (λ i. key_of arena (get_or new ((ap (slot_of first starts) (tid_is t tid h) ∙ sym fact.1) i) 0))
        ∙ (value ∙ sym (λ i. cond (h i) (Some lies.key) (key_of arena (get_or records (slot_of first starts t) 0))))
    inside t w false h =
        (λ i. key_of arena (get_or-set_other records slot (slot_of first starts t) place 0 (differs t w h) i))
        ∙ sym (λ i. cond (h i) (Some lies.key) (key_of arena (get_or records (slot_of first starts t) 0)))

    by : (t : Tid) (b : Bool) → is_within first starts t ≡ b
        → cond (is_within first starts t) (key_of arena (get_or new (slot_of first starts t) 0)) None
        ≡ cond (same_tid t tid) (Some lies.key) (cond (is_within first starts t) (key_of arena (get_or records (slot_of first starts t) 0)) None)
    by t true w =
        (λ i. cond (w i) (key_of arena (get_or new (slot_of first starts t) 0)) None)
        ∙ (inside t (is_within_tells first starts t w) (same_tid t tid) refl
        ∙ sym (λ i. cond (same_tid t tid) (Some lies.key) (cond (w i) (key_of arena (get_or records (slot_of first starts t) 0)) None)))
    by t false w =
        (λ i. cond (w i) (key_of arena (get_or new (slot_of first starts t) 0)) None)
        ∙ (sym (λ i. cond (misses t w i) (Some lies.key) None)
        ∙ sym (λ i. cond (same_tid t tid) (Some lies.key) (cond (w i) (key_of arena (get_or records (slot_of first starts t) 0)) None)))

-- A slot that is set

-- what is written back in place is the whole
pub as_whole : (new old : List ℕ) (n slot r : ℕ) → new ≡ slice_set old slot r → n ≡ length old → take n (new ++ drop (length new) old) ≡ slice_set old slot r
as_whole new old n slot r is count =
    let same : length new ≡ length old = ap length is ∙ length-set old slot r in
    ap (λ (xs : List ℕ). take n (new ++ xs)) (drop_all (length new) old (omega (arith, same)))
    ∙ ap (take n) (append-nil new)
    ∙ take_all n new (omega (arith, same, count))
    ∙ is

pub starts_set : (starts records : List ℕ) (slot r : ℕ) → AreStarts starts records → AreStarts starts (slice_set records slot r)
starts_set starts records slot r are = record { begun = are.begun; ordered = are.ordered; end = are.end ∙ sym (length-set records slot r) }

pub bits_set : (records bits : List ℕ) (slot r : ℕ) → AreBits records bits → AreBits (slice_set records slot r) bits
bits_set records bits slot r are = record {
  room = omega (arith, are.room, length-set records slot r);
  clear = λ p past. are.clear p (omega (arith, past, length-set records slot r));
}
