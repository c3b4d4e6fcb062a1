-- One block more, none of whose rows has come.
use Rattle.std.proofs.Common.{◌≡◌, ◌∙◌, ℕ, ◌+◌, ◌-◌, ◌<◌, ◌≤◌, Bool, true, false, List, [], ◌∷◌, ◌++◌, length, get_or, refl, ap, sym, subst, arith, inl, inr}
use Rattle.std.specs.Prelude.{cond, ◌&&◌, ◌||◌, ◌==◌, ◌⊎◌, nat_le, None, replicate}
use Rattle.std.proofs.lemmas.Bool.{cases_lt, le-leb, leb-true, eq-eqb, eqb-true, or_right}
use Rattle.std.proofs.lemmas.List.{get_or-replicate, get_or_append_left, get_or-append-add, get_or_past, length-append, length-replicate}
use Rattle.std.proofs.Math.Seq.{get_or-append_seam}
use Rattle.key_orders.specs.declared.Tid.{Tid}
use Rattle.page_layout.specs.Bits.{is_set}
use Rattle.join_slots.specs.Slots.{AddsBlock, AreBits, AreKept, AreStarts, HasBlock, Tables, is_item_of, is_within, key_of, keys_of, mets_of, slot_of}
use Rattle.join_slots.proofs.SlotLaws.{Within, both, is_within_tells, within_is}

abbrev as_number : Bool → ℕ
as_number true = 1
as_number false = 0

as_cond : (a b : Bool) → (a && b) ≡ cond a b false
as_cond true b = refl
as_cond false b = refl

key_none : (arena : List ℕ) (r : ℕ) → r ≡ 0 → key_of arena r ≡ None
unfolding key_of
key_none arena r e = rw e refl

all_zeros : (n k : ℕ) → get_or (replicate {A = ℕ} n 0) k 0 ≡ 0
all_zeros n k = elim (cases_lt k n) [
  | inl below ↦ get_or-replicate n k 0 0 below
  | inr past ↦ get_or_past (replicate n 0) k 0 (omega (arith, length-replicate {A = ℕ} n 0))
]

pub same_records : (xs : List ℕ) (n k : ℕ) → get_or (xs ++ replicate n 0) k 0 ≡ get_or xs k 0
same_records xs n k = elim (cases_lt k (length xs)) [
  | inl below ↦ get_or_append_left xs (replicate n 0) 0 k below
  | inr past ↦
      let e : k ≡ length xs + (k - length xs) = omega arith in
      ap (λ q. get_or (xs ++ replicate n 0) q 0) e
      ∙ get_or-append-add xs (replicate n 0) (k - length xs) 0
      ∙ all_zeros n (k - length xs)
      ∙ sym (get_or_past xs k 0 past)
]

pub kept_still : (records arena : List ℕ) (n : ℕ) → AreKept records arena → AreKept (records ++ replicate n 0) arena
unfolding AreKept
kept_still records arena n kept = λ k r e low. kept k r (sym (same_records records n k) ∙ e) low

pub bool_ext : (a b : Bool) → (a ≡ true → b ≡ true) → (b ≡ true → a ≡ true) → a ≡ b
bool_ext true true f g = refl
bool_ext false false f g = refl
bool_ext true false f g = sym (f refl)
bool_ext false true f g = g refl

either : (x y : Bool) → (x || y) ≡ true → (x ≡ true) ⊎ (y ≡ true)
either true y h = inl refl
either false y h = inr h

module _ (starts records : List ℕ) (items : ℕ) (are : AreStarts starts records) where
  abbrev end : ℕ
  end = length records + items

  abbrev more : List ℕ
  more = starts ++ end ∷ []

  len : length more ≡ length starts + 1
  len = length-append starts (end ∷ [])

  before : (k : ℕ) → k < length starts → get_or more k 0 ≡ get_or starts k 0
  before k lt = get_or_append_left starts (end ∷ []) 0 k lt

  last : (k : ℕ) → k ≡ length starts → get_or more k 0 ≡ end
  last k e = ap (λ q. get_or more q 0) e ∙ get_or-append_seam starts end [] 0

  top : (k : ℕ) → k + 1 ≡ length starts → get_or starts k 0 ≡ length records
  top k e = let same : k ≡ length starts - 1 = omega arith in ap (λ q. get_or starts q 0) same ∙ are.end

  pub starts_more : AreStarts more (records ++ replicate items 0)
  starts_more = record {
    begun = omega (arith, len);
    ordered = λ j k le lt. elim (cases_lt k (length starts)) [
      | inl low ↦ omega (arith, before j (omega arith), before k low, are.ordered j k le low)
      | inr high ↦ elim (cases_lt j (length starts)) [
        | inl low ↦ omega (arith, before j low, last k (omega (arith, len)), are.ordered j (length starts - 1) (omega arith) (omega (arith, are.begun)), are.end)
        | inr top ↦ omega (arith, last k (omega (arith, len)), last j (omega (arith, len)))
      ]
    ];
    end =
        last (length more - 1) (omega (arith, len))
        ∙ sym (length-append records (replicate items 0) ∙ ap (λ n. length records + n) (length-replicate {A = ℕ} items 0));
  }

  module _ (first : ℕ) (tid : Tid) where
    old_is : Within first more tid → tid.block - first + 1 < length starts → Within first starts tid
    old_is w low = record { low = w.low; high = low; item = w.item; fits = omega (arith, w.fits, before (tid.block - first) (omega arith), before (tid.block - first + 1) low) }

    new_is : Within first starts tid → Within first more tid
    new_is w = record { low = w.low; high = omega (arith, w.high, len); item = w.item; fits = omega (arith, w.fits, before (tid.block - first) (omega (arith, w.high)), before (tid.block - first + 1) w.high) }

    item_is : Within first more tid → length starts ≤ tid.block - first + 1 → is_item_of (first + (length starts - 1)) items tid ≡ true
    item_is w high =
        let at : tid.block - first + 1 ≡ length starts = omega (arith, w.high, len) in
        let here = eq-eqb tid.block (first + (length starts - 1)) (omega (arith, w.low)) in
        let one = le-leb 1 tid.item w.item in
        let most = le-leb tid.item items (omega (arith, w.fits, before (tid.block - first) (omega arith), top (tid.block - first) at, last (tid.block - first + 1) at)) in
        rw (here, one, most) refl

    item_in : is_item_of (first + (length starts - 1)) items tid ≡ true → Within first more tid
    item_in h =
        let a = both (tid.block == (first + (length starts - 1))) (nat_le 1 tid.item && nat_le tid.item items) h in
        let b = both (nat_le 1 tid.item) (nat_le tid.item items) a.1 in
        let here = eqb-true tid.block (first + (length starts - 1)) a.0 in
        let one = leb-true 1 tid.item b.0 in
        let most = leb-true tid.item items b.1 in
        let at : tid.block - first + 1 ≡ length starts = omega (arith, are.begun) in
        record { low = omega arith; high = omega (arith, len); item = one; fits = omega (arith, before (tid.block - first) (omega arith), top (tid.block - first) at, last (tid.block - first + 1) at) }

    pub within_more : is_within first more tid ≡ (is_within first starts tid || is_item_of (first + (length starts - 1)) items tid)
    within_more =
        bool_ext _ _
        (λ h. let w = is_within_tells first more tid h in elim (cases_lt (tid.block - first + 1) (length starts)) [
          | inl low ↦ ap (λ x. x || is_item_of (first + (length starts - 1)) items tid) (within_is first starts tid (old_is w low))
          | inr high ↦ or_right (is_within first starts tid) _ (item_is w high)
        ])
        (λ h. elim (either (is_within first starts tid) (is_item_of (first + (length starts - 1)) items tid) h) [
          | inl e ↦ within_is first more tid (new_is (is_within_tells first starts tid e))
          | inr e ↦ within_is first more tid (item_in e)
        ])

    -- a slot that came lies behind the others
    behind : Within first more tid → length starts ≤ tid.block - first + 1 → length records ≤ slot_of first more tid
    behind w high =
        let at : tid.block - first + 1 ≡ length starts = omega (arith, w.high, len) in
        omega (arith, w.item, before (tid.block - first) (omega arith), top (tid.block - first) at)

    same_slot : Within first starts tid → slot_of first more tid ≡ slot_of first starts tid
    same_slot w = ap (λ s. s + tid.item - 1) (before (tid.block - first) (omega (arith, w.high)))

    -- of a function of the slots that is nothing behind them, the new slots change nothing
    pub same_told : {X : Type 0} (f g : ℕ → X) (d : X) → ((p : ℕ) → g p ≡ f p) → ((p : ℕ) → length records ≤ p → f p ≡ d)
        → cond (is_within first more tid) (g (slot_of first more tid)) d ≡ cond (is_within first starts tid) (f (slot_of first starts tid)) d
    same_told f g d agree none = by (is_within first more tid) (is_within first starts tid) refl refl
      where
        by : (a b : Bool) → is_within first more tid ≡ a → is_within first starts tid ≡ b
            → cond a (g (slot_of first more tid)) d ≡ cond b (f (slot_of first starts tid)) d
        by true true p q = agree (slot_of first more tid) ∙ ap f (same_slot (is_within_tells first starts tid q))
        by false false p q = refl
        by true false p q =
            let w = is_within_tells first more tid p in
            elim (cases_lt (tid.block - first + 1) (length starts)) [
              | inl low ↦ absurd (omega (arith, ap as_number (sym (within_is first starts tid (old_is w low)) ∙ q)))
              | inr high ↦ agree (slot_of first more tid) ∙ none (slot_of first more tid) (behind w high)
            ]
        by false true p q = absurd (omega (arith, ap as_number (sym (within_is first more tid (new_is (is_within_tells first starts tid q))) ∙ p)))

    pub keys_still : (arena : List ℕ) → keys_of first more (records ++ replicate items 0) arena tid ≡ keys_of first starts records arena tid
    unfolding keys_of
    keys_still arena =
        same_told (λ p. key_of arena (get_or records p 0)) (λ p. key_of arena (get_or (records ++ replicate items 0) p 0)) None
        (λ p. ap (key_of arena) (same_records records items p))
        (λ p past. key_none arena (get_or records p 0) (get_or_past records p 0 past))

    pub mets_still : (bits new : List ℕ) → AreBits records bits → ((p : ℕ) → is_set new p ≡ is_set bits p)
        → mets_of first more new tid ≡ mets_of first starts bits tid
    unfolding mets_of
    mets_still bits new bit same =
        as_cond (is_within first more tid) (is_set new (slot_of first more tid))
        ∙ (same_told (is_set bits) (is_set new) false same bit.clear ∙ sym (as_cond (is_within first starts tid) (is_set bits (slot_of first starts tid))))

abbrev pub tables : ℕ → List ℕ → List ℕ → List ℕ → List ℕ → Tables
tables first starts records arena bits = record { first = first; starts = starts; records = records; arena = arena; bits = bits }

pub starts_added : (starts records : List ℕ) (items : ℕ) (ns nr : List ℕ) → AreStarts starts records → AddsBlock starts records items ns nr → AreStarts ns nr
starts_added starts records items ns nr are a =
    subst (λ (x : List ℕ × List ℕ). AreStarts x.0 x.1) (λ i. (sym a.starts_are i, sym a.records_are i)) (starts_more starts records items are)

pub kept_added : (starts records arena : List ℕ) (items : ℕ) (ns nr : List ℕ) → AreKept records arena → AddsBlock starts records items ns nr → AreKept nr arena
kept_added starts records arena items ns nr kept a = subst (λ (x : List ℕ). AreKept x arena) (sym a.records_are) (kept_still records arena items kept)

pub block_added : (first : ℕ) (starts records arena bits : List ℕ) (items : ℕ) (ns nr nb : List ℕ) → AreStarts starts records → AreBits records bits
    → AddsBlock starts records items ns nr → ((p : ℕ) → is_set nb p ≡ is_set bits p)
    → HasBlock (tables first starts records arena bits) items (tables first ns nr arena nb)
block_added first starts records arena bits items ns nr nb are bit a same =
    subst (λ (x : List ℕ × List ℕ). HasBlock (tables first starts records arena bits) items (tables first x.0 x.1 arena nb))
    (λ i. (sym a.starts_are i, sym a.records_are i))
    (record {
      first = refl;
      blocks = omega (arith, length-append starts ((length records + items) ∷ []), are.begun);
      has = λ tid. within_more starts records items are first tid;
      keys = λ tid. keys_still starts records items are first tid arena;
      met = λ tid. mets_still starts records items are first tid bits nb bit same;
    })

pub mets_alike : (first : ℕ) (starts bits new : List ℕ) → ((p : ℕ) → is_set new p ≡ is_set bits p) → mets_of first starts new ≡ mets_of first starts bits
unfolding mets_of
mets_alike first starts bits new same = λ i t. is_within first starts t && same (slot_of first starts t) i
