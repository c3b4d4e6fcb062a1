-- What is known of all rows that are kept, and of one that has a key.
use Rattle.std.proofs.Common.{◌≡◌, ◌∙◌, ℕ, ◌-◌, ◌<◌, Bool, true, false, List, get_or, refl, ap, sym, arith}
use Rattle.std.specs.Prelude.{cond, ◌&&◌, ◌≢◌, Option, Some, None, ◌∷◌, drop, length}
use Rattle.std.proofs.lemmas.Bool.{eq-eqb, ne_eqb}
use Rattle.key_orders.specs.declared.Tid.{Tid}
use Rattle.key_orders.specs.declared.columns.Value.{Value}
use Rattle.page_layout.specs.Bits.{is_set}
use Rattle.key_storage.specs.Stored.{key_read, values_read}
use Rattle.key_storage.proofs.SameLaws.{keys_decide}
use Rattle.join_slots.specs.Met.{is_key}
use Rattle.key_storage.specs.RowLists.{NUMBERS}
use Rattle.join_slots.specs.Slots.{AreAllSet, AreStarts, found_slot, is_within, key_of, keys_of, mets_of, slot_bytes, slot_of}
use Rattle.join_slots.proofs.PutLaws.{in_arena, key_some}
use Rattle.join_slots.proofs.SlotLaws.{below, is_within_tells, key_there}

abbrev flag_number : Bool → ℕ
flag_number true = 1
flag_number false = 0

abbrev as_number : Option (List Value) → ℕ
as_number None = 0
as_number (Some key) = 1

-- a key that is kept is this one where the test says so
pub kept_key : (key : List Value) (held : Option (List Value)) → is_key key held ≡ true → held ≡ Some key
kept_key key None h = absurd (omega (arith, ap flag_number h))
kept_key key (Some held) h = ap Some ((keys_decide held key).0 h)

-- where a row is kept, its line pointer has a slot, and that has a number
there : (t : Bool) (held : Option (List Value)) (key : List Value) → cond t held None ≡ Some key → t ≡ true
there true held key e = refl
there false held key e = absurd (omega (arith, ap as_number e))

has_number : (arena : List ℕ) (r : ℕ) (key : List Value) → key_of arena r ≡ Some key → r ≡ 0 → ⊥
unfolding key_of
has_number arena r key e none =
    absurd (omega (arith, ap as_number (sym e ∙ ap (λ b. cond b None (Some (key_read (slot_bytes arena r)))) (eq-eqb r 0 none))))

pub all_met : (first : ℕ) (starts records arena bits : List ℕ) → AreStarts starts records → AreAllSet records bits (length records)
    → (tid : Tid) (key : List Value) → keys_of first starts records arena tid ≡ Some key → mets_of first starts bits tid ≡ true
unfolding keys_of mets_of
all_met first starts records arena bits are set tid key e =
    let within : is_within first starts tid ≡ true = there (is_within first starts tid) (key_of arena (get_or records (slot_of first starts tid) 0)) key e in
    let held : key_of arena (get_or records (slot_of first starts tid) 0) ≡ Some key =
    ap (λ b. cond b (key_of arena (get_or records (slot_of first starts tid) 0)) None) (sym within) ∙ e in
    let lt = below first starts records tid are (is_within_tells first starts tid within) in
    ap (λ b. b && is_set bits (slot_of first starts tid)) within
    ∙ set (slot_of first starts tid) lt (λ none. has_number arena (get_or records (slot_of first starts tid) 0) key held none)

-- a key that is read as so many values
pub plain_key : (arena values : List ℕ) (count n place : ℕ) (key : List Value) → place ≢ 0 → place < NUMBERS → count ≡ n
    → drop (place - 1) arena ≡ count ∷ values → values_read n values ≡ key → is_key key (key_of arena place) ≡ true
unfolding key_read
plain_key arena values count n place key some low same bytes is =
    let read : key_read (drop (place - 1) arena) ≡ key =
    ap key_read bytes ∙ (ap (λ m. values_read m values) same ∙ is) in
    let held : key_of arena place ≡ Some key =
    key_some arena place some ∙ ap (λ k. Some (key_read k)) (in_arena arena place low) ∙ ap Some read in
    ap (is_key key) held ∙ (keys_decide key key).1 refl

-- a slot without a row
pub none_there : (arena : List ℕ) (place : ℕ) (key : List Value) → place ≡ 0 → is_key key (key_of arena place) ≡ false
unfolding key_of
none_there arena place key none = ap (λ b. is_key key (cond b None (Some (key_read (slot_bytes arena place))))) (eq-eqb place 0 none)

pub empty_slot : (first : ℕ) (starts records arena : List ℕ) (tid : Tid) (slot : ℕ) → Some slot ≡ found_slot first starts tid → get_or records slot 0 ≡ 0
    → keys_of first starts records arena tid ≡ None
unfolding key_of
empty_slot first starts records arena tid slot e none =
    key_there first starts records arena tid slot e
    ∙ ap (λ b. cond b None (Some (key_read (slot_bytes arena (get_or records slot 0))))) (eq-eqb (get_or records slot 0) 0 none)

-- one that has a row
pub full_slot : (first : ℕ) (starts records arena : List ℕ) (tid : Tid) (slot : ℕ) → Some slot ≡ found_slot first starts tid → get_or records slot 0 ≢ 0
    → keys_of first starts records arena tid ≢ None
unfolding key_of
full_slot first starts records arena tid slot e some none =
    absurd (omega (
      arith,
      ap as_number (sym none
          ∙ key_there first starts records arena tid slot e
          ∙ ap (λ b. cond b None (Some (key_read (slot_bytes arena (get_or records slot 0))))) (ne_eqb (get_or records slot 0) 0 some)),
    ))
