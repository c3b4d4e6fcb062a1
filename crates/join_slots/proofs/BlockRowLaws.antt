-- Rows of a block that are kept at once.
use Rattle.std.proofs.Common.{◌≡◌, ◌∙◌, ℕ, zero, suc, ◌+◌, ◌-◌, ◌<◌, ◌≤◌, Bool, true, false, List, [], ◌∷◌, ◌++◌, length, get_or, drop, refl, ap, sym, arith, inl, inr}
use Rattle.std.proofs.Common.{append_assoc, get_or-set_other, get_or-set_same, length-append}
use Rattle.std.specs.Prelude.{All, None, Option, Some, cond, nat_le, nat_lt, slice_get, slice_set, ◌&&◌, ◌==◌}
use Rattle.std.proofs.lemmas.List.{length-map}
use Rattle.std.proofs.lemmas.Bool.{cases_eq, cases_lt, eq-eqb, eqb-true, le-leb, leb-true, lt-ltb, ltb-true, ne_eqb}
use Rattle.key_orders.specs.declared.Tid.{Tid}
use Rattle.key_orders.specs.declared.columns.Value.{Value}
use Rattle.key_storage.specs.RowLists.{LiesAt, LiesFrom, NUMBERS, bytes_at, keys_read, number_bytes}
use Rattle.key_storage.specs.Stored.{key_read, stored_key}
use Rattle.key_storage.proofs.RowLaws.{as_number, in_bytes, read_there}
use Rattle.join_slots.specs.BlockRows.{AreFree, AreSlots, is_among, key_at, rows_at}
use Rattle.join_slots.specs.Slots.{AreKept, AreStarts, is_item_of, is_within, key_of, keys_of, keys_with_rows, slot_of}
use Rattle.join_slots.proofs.BlockLaws.{bool_ext}
use Rattle.join_slots.proofs.PutLaws.{kept_set, kept_with_number, key_of_number, key_of_some, still}
use Rattle.join_slots.proofs.SlotLaws.{Within, both, is_within_tells, slot_found, within_is}
use Rattle.join_slots.proofs.WholeLaws.{empty_slot, full_slot}

-- One row

pub row_kept : (records arena : List ℕ) (slot at : ℕ) → slot < length records → LiesAt arena at → AreKept records arena → AreKept (slice_set records slot (at + 1)) arena
row_kept records arena slot at low lies kept = kept_set records arena slot (at + 1) at low refl lies kept

pub row_put : (records arena : List ℕ) (slot at : ℕ) → slot < length records → at + 1 < NUMBERS → LiesAt arena at
    → (k : ℕ) → key_at (slice_set records slot (at + 1)) arena k ≡ cond (k == slot) (Some (key_read (drop at arena))) (key_at records arena k)
row_put records arena slot at low small lies k = elim (cases_eq k slot) [
  | inl same ↦
      (λ i. key_of arena ((ap (λ j. get_or (slice_set records slot (at + 1)) j 0) same ∙ get_or-set_same records slot (at + 1) 0 low) i))
      ∙ key_of_some arena at lies small
      ∙ ap (λ key. Some key) (sym (read_there arena at lies))
      ∙ sym (ap (λ (b : Bool). cond b (Some (key_read (drop at arena))) (key_at records arena k)) (eq-eqb k slot same))
  | inr other ↦
      (λ i. key_of arena (get_or-set_other records slot k (at + 1) 0 other i))
      ∙ sym (ap (λ (b : Bool). cond b (Some (key_read (drop at arena))) (key_at records arena k)) (ne_eqb k slot other))
]

pub number_kept : (records arena : List ℕ) (slot n : ℕ) → slot < length records → AreKept records arena → AreKept (slice_set records slot (NUMBERS + n)) arena
number_kept records arena slot n low kept = kept_with_number records arena slot n low kept

pub number_put : (records arena : List ℕ) (slot n : ℕ) → slot < length records
    → (k : ℕ) → key_at (slice_set records slot (NUMBERS + n)) arena k ≡ cond (k == slot) (Some (key_read (number_bytes n))) (key_at records arena k)
number_put records arena slot n low k = elim (cases_eq k slot) [
  | inl same ↦
      (λ i. key_of arena ((ap (λ j. get_or (slice_set records slot (NUMBERS + n)) j 0) same ∙ get_or-set_same records slot (NUMBERS + n) 0 low) i))
      ∙ key_of_number arena n
      ∙ sym (ap (λ (b : Bool). cond b (Some (key_read (number_bytes n))) (key_at records arena k)) (eq-eqb k slot same))
  | inr other ↦
      (λ i. key_of arena (get_or-set_other records slot k (NUMBERS + n) 0 other i))
      ∙ sym (ap (λ (b : Bool). cond b (Some (key_read (number_bytes n))) (key_at records arena k)) (ne_eqb k slot other))
]

-- Several

abbrev flag_number : Bool → ℕ
flag_number true = 1
flag_number false = 0

among_is : (slot count k : ℕ) → slot ≤ k → k < slot + count → is_among slot count k ≡ true
among_is slot count k low high = rw (le-leb slot k low, lt-ltb k (slot + count) high) refl

among_tells : (slot count k : ℕ) → is_among slot count k ≡ true → (slot ≤ k) × (k < slot + count)
among_tells slot count k h =
    let a = both (nat_le slot k) (nat_lt k (slot + count)) h in (leb-true slot k a.0, ltb-true k (slot + count) a.1)

not_among : (slot count k : ℕ) → ((slot ≤ k) × (k < slot + count) → ⊥) → is_among slot count k ≡ false
not_among slot count k never = by (is_among slot count k) refl
  where
    by : (b : Bool) → is_among slot count k ≡ b → is_among slot count k ≡ false
    by false e = e
    by true e = absurd (never (among_tells slot count k e))

-- of none, all is as it was
pub no_rows : (records arena : List ℕ) (slot : ℕ) (rows : List (List Value)) (k : ℕ) → key_at records arena k ≡ rows_at records arena slot rows 0 k
no_rows records arena slot rows k =
    sym (ap (λ (b : Bool). cond b (slice_get rows (k - slot)) (key_at records arena k)) (not_among slot 0 k (λ h. omega (arith, h.0, h.1))))

-- one more
pub one_row : (records arena : List ℕ) (slot : ℕ) (rows : List (List Value)) (i k : ℕ) (key : List Value) (mid new : Option (List Value)) → Some key ≡ slice_get rows i
    → mid ≡ rows_at records arena slot rows i k → new ≡ cond (k == (slot + i)) (Some key) mid
    → new ≡ rows_at records arena slot rows (i + 1) k
one_row records arena slot rows i k key mid new is before put = put ∙ elim (cases_eq k (slot + i)) [
  | inl same ↦
      let here : k - slot ≡ i = omega arith in
      let least : slot ≤ k = omega arith in
      let most : k < slot + (i + 1) = omega arith in
      ap (λ (b : Bool). cond b (Some key) mid) (eq-eqb k (slot + i) same)
      ∙ is ∙ sym (ap (slice_get rows) here)
      ∙ sym (ap (λ (b : Bool). cond b (slice_get rows (k - slot)) (key_at records arena k)) (among_is slot (i + 1) k least most))
  | inr other ↦
      ap (λ (b : Bool). cond b (Some key) mid) (ne_eqb k (slot + i) other)
      ∙ before
      ∙ ap (λ (b : Bool). cond b (slice_get rows (k - slot)) (key_at records arena k))
      (bool_ext (is_among slot i k) (is_among slot (i + 1) k)
      (λ h. let a = among_tells slot i k h in among_is slot (i + 1) k a.0 (omega (arith, a.1)))
      (λ h. let a = among_tells slot (i + 1) k h in among_is slot i k a.0 (omega (arith, a.0, a.1))))
]

-- Rows behind others

abbrev pub lies_behind : (front bytes : List ℕ) (at : ℕ) → LiesAt bytes at → LiesAt (front ++ bytes) (length front + at)
lies_behind front bytes at lies = record {
  before = front ++ lies.before;
  key = lies.key;
  rest = lies.rest;
  storable = lies.storable;
  at_is = length-append front lies.before ∙ ap (λ n. length front + n) lies.at_is;
  bytes = ap (λ w. front ++ w) lies.bytes ∙ sym (append_assoc front lies.before (stored_key lies.key ++ lies.rest));
}

-- they lie inside
pub lies_inside : (bytes : List ℕ) (at : ℕ) → LiesAt bytes at → at < length bytes
lies_inside bytes at lies =
    omega (arith, lies.at_is, ap length lies.bytes, length-append lies.before (stored_key lies.key ++ lies.rest))

pub count_read : (starts bytes : List ℕ) (rows : List (List Value)) → keys_read starts bytes ≡ rows → length rows ≡ length starts
count_read starts bytes rows are = sym (ap length are) ∙ length-map starts (λ start. key_read (bytes_at bytes start))

get-read : (starts bytes : List ℕ) (i : ℕ) → i < length starts → slice_get (keys_read starts bytes) i ≡ Some (key_read (bytes_at bytes (get_or starts i 0)))
get-read [] bytes i low = absurd (omega (arith, low))
get-read (at ∷ starts) bytes zero low = refl
get-read (at ∷ starts) bytes (suc i) low = get-read starts bytes i (omega (arith, low))

pub key_behind : (front bytes starts : List ℕ) (i : ℕ) → i < length starts → get_or starts i 0 < NUMBERS → All (LiesFrom bytes) starts
    → Some (key_read (drop (length front + get_or starts i 0) (front ++ bytes))) ≡ slice_get (keys_read starts bytes) i
key_behind front bytes starts i low place lie =
    let at : ℕ = get_or starts i 0 in
    let lies : LiesAt bytes at = lie i 0 low place in
    ap (λ key. Some key) (read_there (front ++ bytes) (length front + at) (lies_behind front bytes at lies) ∙ sym (read_there bytes at lies) ∙ ap key_read (sym (in_bytes bytes at place)))
    ∙ sym (get-read starts bytes i low)

pub number_behind : (bytes starts : List ℕ) (i : ℕ) → i < length starts → NUMBERS ≤ get_or starts i 0
    → Some (key_read (number_bytes (get_or starts i 0 - NUMBERS))) ≡ slice_get (keys_read starts bytes) i
number_behind bytes starts i low number =
    ap (λ k. Some (key_read k)) (sym (as_number bytes (get_or starts i 0) number)) ∙ sym (get-read starts bytes i low)

pub still_there : (records arena more : List ℕ) → AreKept records arena → (k : ℕ) → key_at records (arena ++ more) k ≡ key_at records arena k
still_there records arena more kept k = still records arena more k kept

-- Of a block

module _ (first : ℕ) (starts records : List ℕ) (block count slot : ℕ) (are : AreStarts starts records) (slots : AreSlots first starts block count slot) where
  item_within : (t : Tid) → is_item_of block count t ≡ true → Within first starts t
  item_within t h =
      let a = both (t.block == block) (nat_le 1 t.item && nat_le t.item count) h in
      let b = both (nat_le 1 t.item) (nat_le t.item count) a.1 in
      let at : t.block ≡ block = eqb-true t.block block a.0 in
      let least : 1 ≤ t.item = leb-true 1 t.item b.0 in
      let most : t.item ≤ count = leb-true t.item count b.1 in
      let begins : get_or starts (t.block - first) 0 ≡ slot = ap (λ (n : ℕ). get_or starts (n - first) 0) at ∙ sym slots.slot_is in
      let ends : get_or starts (t.block - first + 1) 0 ≡ get_or starts (block - first + 1) 0 = ap (λ (n : ℕ). get_or starts (n - first + 1) 0) at in
      record { low = omega (arith, slots.low); high = omega (arith, slots.high); item = least; fits = omega (arith, slots.fits) }

  item_slot : (t : Tid) → is_item_of block count t ≡ true → slot_of first starts t ≡ slot + (t.item - 1)
  item_slot t h =
      let a = both (t.block == block) (nat_le 1 t.item && nat_le t.item count) h in
      let b = both (nat_le 1 t.item) (nat_le t.item count) a.1 in
      let at : t.block ≡ block = eqb-true t.block block a.0 in
      let least : 1 ≤ t.item = leb-true 1 t.item b.0 in
      let begins : get_or starts (t.block - first) 0 ≡ slot = ap (λ (n : ℕ). get_or starts (n - first) 0) at ∙ sym slots.slot_is in
      omega arith

  item_among : (t : Tid) → is_item_of block count t ≡ true → is_among slot count (slot_of first starts t) ≡ true
  item_among t h =
      let a = both (t.block == block) (nat_le 1 t.item && nat_le t.item count) h in
      let b = both (nat_le 1 t.item) (nat_le t.item count) a.1 in
      let least : 1 ≤ t.item = leb-true 1 t.item b.0 in
      let most : t.item ≤ count = leb-true t.item count b.1 in
      let e = item_slot t h in
      among_is slot count (slot_of first starts t) (omega arith) (omega arith)

  among_item : (t : Tid) → Within first starts t → is_among slot count (slot_of first starts t) ≡ true → is_item_of block count t ≡ true
  among_item t w h =
      let a = among_tells slot count (slot_of first starts t) h in
      let at : t.block ≡ block = elim (cases_lt t.block block) [
        | inl lt ↦ absurd (omega (arith, are.ordered (t.block - first + 1) (block - first) (omega (arith, w.low)) (omega (arith, slots.high)), slots.slot_is, w.item, w.fits, a.0))
        | inr ge ↦ elim (cases_lt block t.block) [
          | inl lt ↦ absurd (omega (arith, are.ordered (block - first + 1) (t.block - first) (omega (arith, slots.low)) (omega (arith, w.high)), slots.fits, w.item, a.1))
          | inr le ↦ omega arith
        ]
      ] in
      let begins : get_or starts (t.block - first) 0 ≡ slot = ap (λ (n : ℕ). get_or starts (n - first) 0) at ∙ sym slots.slot_is in
      let here = eq-eqb t.block block at in
      let least = le-leb 1 t.item w.item in
      let most = le-leb t.item count (omega (arith, w.item, a.1)) in
      rw (here, least, most) refl

  outside : (t : Tid) → is_within first starts t ≡ false → is_item_of block count t ≡ false
  outside t out = by (is_item_of block count t) refl
    where
      by : (b : Bool) → is_item_of block count t ≡ b → is_item_of block count t ≡ false
      by false e = e
      by true e = absurd (omega (arith, ap flag_number (sym (within_is first starts t (item_within t e)) ∙ out)))

  pub block_fresh : (arena : List ℕ) → AreFree records slot count → (t : Tid) → is_item_of block count t ≡ true → keys_of first starts records arena t ≡ None
  block_fresh arena free t h =
      let w = item_within t h in
      let a = both (t.block == block) (nat_le 1 t.item && nat_le t.item count) h in
      let b = both (nat_le 1 t.item) (nat_le t.item count) a.1 in
      let least : 1 ≤ t.item = leb-true 1 t.item b.0 in
      let most : t.item ≤ count = leb-true t.item count b.1 in
      empty_slot first starts records arena t (slot_of first starts t) (slot_found first starts t w)
      (ap (λ (k : ℕ). get_or records k 0) (item_slot t h) ∙ free (t.item - 1) (omega arith))

  at_slot : (arena : List ℕ) (rows : List (List Value)) (t : Tid) → count ≡ length rows → Within first starts t
      → rows_at records arena slot rows count (slot_of first starts t)
      ≡ cond (is_item_of block (length rows) t) (slice_get rows (t.item - 1)) (key_at records arena (slot_of first starts t))
  at_slot arena rows t len w = by (is_item_of block count t) refl
    where
      among : is_among slot count (slot_of first starts t) ≡ is_item_of block count t
      among = bool_ext _ _ (among_item t w) (item_among t)

      by : (b : Bool) → is_item_of block count t ≡ b → rows_at records arena slot rows count (slot_of first starts t)
          ≡ cond (is_item_of block (length rows) t) (slice_get rows (t.item - 1)) (key_at records arena (slot_of first starts t))
      by true e =
          let back : slot_of first starts t - slot ≡ t.item - 1 = omega (arith, item_slot t e) in
          ap (λ (b : Bool). cond b (slice_get rows (slot_of first starts t - slot)) (key_at records arena (slot_of first starts t))) (among ∙ e)
          ∙ ap (λ (k : ℕ). slice_get rows k) back
          ∙ sym (ap (λ (b : Bool). cond b (slice_get rows (t.item - 1)) (key_at records arena (slot_of first starts t)))
          (ap (λ (n : ℕ). is_item_of block n t) (sym len) ∙ e))
      by false e =
          ap (λ (b : Bool). cond b (slice_get rows (slot_of first starts t - slot)) (key_at records arena (slot_of first starts t))) (among ∙ e)
          ∙ sym (ap (λ (b : Bool). cond b (slice_get rows (t.item - 1)) (key_at records arena (slot_of first starts t)))
          (ap (λ (n : ℕ). is_item_of block n t) (sym len) ∙ e))

  pub block_rows : (arena : List ℕ) (rows : List (List Value)) (nr na : List ℕ) → count ≡ length rows
      → ((k : ℕ) → key_at nr na k ≡ rows_at records arena slot rows count k)
      → keys_of first starts nr na ≡ keys_with_rows (keys_of first starts records arena) block rows
  unfolding keys_of
  block_rows arena rows nr na len new = λ i t. by t (is_within first starts t) refl i
    where
      item : (t : Tid) → is_item_of block (length rows) t ≡ is_item_of block count t
      item t = ap (λ (n : ℕ). is_item_of block n t) (sym len)

      by : (t : Tid) (b : Bool) → is_within first starts t ≡ b
          → cond (is_within first starts t) (key_at nr na (slot_of first starts t)) None
          ≡ cond (is_item_of block (length rows) t) (slice_get rows (t.item - 1)) (cond (is_within first starts t) (key_at records arena (slot_of first starts t)) None)
      by t true w =
          ap (λ (b : Bool). cond b (key_at nr na (slot_of first starts t)) None) w
          ∙ new (slot_of first starts t)
          ∙ at_slot arena rows t len (is_within_tells first starts t w)
          ∙ sym (ap (λ (b : Bool). cond (is_item_of block (length rows) t) (slice_get rows (t.item - 1)) (cond b (key_at records arena (slot_of first starts t)) None)) w)
      by t false w =
          ap (λ (b : Bool). cond b (key_at nr na (slot_of first starts t)) None) w
          ∙ sym (ap (λ (b : Bool). cond b (slice_get rows (t.item - 1)) None) (item t ∙ outside t w))
          ∙ sym (ap (λ (b : Bool). cond (is_item_of block (length rows) t) (slice_get rows (t.item - 1)) (cond b (key_at records arena (slot_of first starts t)) None)) w)

-- Where the line pointers have slots, and where none of these has a row

item_is : (block count n : ℕ) → 1 ≤ n → n ≤ count → is_item_of block count (record { block = block; item = n }) ≡ true
item_is block count n least most = rw (eq-eqb block block refl, le-leb 1 n least, le-leb n count most) refl

pub slots_are : (first : ℕ) (starts : List ℕ) (block count : ℕ) → 1 ≤ count
    → ((t : Tid) → is_item_of block count t ≡ true → is_within first starts t ≡ true)
    → AreSlots first starts block count (get_or starts (block - first) 0)
slots_are first starts block count some has =
    let last : Tid = record { block = block; item = count } in
    let w : Within first starts last = is_within_tells first starts last (has last (item_is block count count some (omega arith))) in
    record { low = w.low; high = w.high; slot_is = refl; fits = w.fits }

pub slots_free : (first : ℕ) (starts records arena : List ℕ) (block count slot : ℕ) → AreStarts starts records → AreSlots first starts block count slot
    → ((t : Tid) → is_item_of block count t ≡ true → keys_of first starts records arena t ≡ None) → AreFree records slot count
slots_free first starts records arena block count slot are slots none i low = elim (cases_eq (get_or records (slot + i) 0) 0) [
  | inl free ↦ free
  | inr used ↦
      let t : Tid = record { block = block; item = i + 1 } in
      let is : is_item_of block count t ≡ true = item_is block count (i + 1) (omega arith) (omega arith) in
      let back : i + 1 - 1 ≡ i = omega arith in
      let there : slot_of first starts t ≡ slot + i = item_slot first starts records block count slot are slots t is ∙ ap (λ (n : ℕ). slot + n) back in
      absurd (full_slot first starts records arena t (slot + i) (ap Some (sym there) ∙ slot_found first starts t (item_within first starts records block count slot are slots t is)) used (none t is))
]
