-- Slots of no blocks.
use Rattle.std.proofs.Common.{◌≡◌, ℕ, ◌+◌, ◌-◌, ◌%◌, ◌≤◌, false, List, [], ◌∷◌, length, get_or, take, refl, ap, sym, subst, arith}
use Rattle.std.specs.Prelude.{cond, ◌==◌, nat_le, None, slice_set}
use Rattle.std.proofs.lemmas.Bool.{and_left, and_right, le-ltb}
use Rattle.std.proofs.lemmas.Nat.Bits.{bit_at-zero}
use Rattle.key_orders.specs.declared.Tid.{Tid}
use Rattle.page_layout.specs.Bits.{is_set}
use Rattle.join_slots.specs.Slots.{AreBits, AreKept, AreStarts, IsBegun, is_within, key_of, keys_of, mets_of, slot_of}
use Rattle.join_slots.proofs.BlockLaws.{tables}

pub first_start : (xs : List ℕ) → 1 ≤ length xs → slice_set (take 1 xs) 0 0 ≡ 0 ∷ []
first_start [] h = absurd (omega arith)
first_start (x ∷ xs) h = refl

no_bits : (p : ℕ) → is_set [] p ≡ false
unfolding is_set
no_bits p = ap (λ b. b == 1) (bit_at-zero (p % 8))

starts_begun : AreStarts (0 ∷ []) []
starts_begun = record {
  begun = omega arith;
  ordered = λ j k le lt.
      let k0 : k ≡ 0 = omega arith in
      let j0 : j ≡ 0 = omega arith in
      rw (j0, k0) (omega arith);
  end = refl;
}

bits_begun : AreBits [] []
bits_begun = record { room = omega arith; clear = λ p past. no_bits p }

kept_begun : (arena : List ℕ) → AreKept [] arena
unfolding AreKept
kept_begun arena = λ k r e low. absurd (omega arith)

pub begun_tables : (starts records arena bits : List ℕ) → starts ≡ 0 ∷ [] → records ≡ [] → bits ≡ [] → AreStarts starts records × AreBits records bits × AreKept records arena
begun_tables starts records arena bits s r b = (
  subst (λ (x : List ℕ × List ℕ). AreStarts x.0 x.1) (λ i. (sym s i, sym r i)) starts_begun,
  subst (λ (x : List ℕ × List ℕ). AreBits x.0 x.1) (λ i. (sym r i, sym b i)) bits_begun,
  subst (λ (x : List ℕ). AreKept x arena) (sym r) (kept_begun arena),
)

none_within : (first : ℕ) (tid : Tid) → is_within first (0 ∷ []) tid ≡ false
unfolding is_within
none_within first tid = and_right (nat_le first tid.block) _ (and_left _ _ (le-ltb (tid.block - first + 1) 1 (omega arith)))

none_kept : (first : ℕ) (records arena : List ℕ) (tid : Tid) → keys_of first (0 ∷ []) records arena tid ≡ None
unfolding keys_of
none_kept first records arena tid = (λ i. cond (none_within first tid i) (key_of arena (get_or records (slot_of first (0 ∷ []) tid) 0)) None)

none_met : (first : ℕ) (bits : List ℕ) (tid : Tid) → mets_of first (0 ∷ []) bits tid ≡ false
unfolding mets_of
none_met first bits tid = and_left _ _ (none_within first tid)

pub begun_is : (first : ℕ) (starts records arena bits : List ℕ) → starts ≡ 0 ∷ [] → IsBegun first (tables first starts records arena bits)
begun_is first starts records arena bits s =
    subst (λ (x : List ℕ). IsBegun first (tables first x records arena bits)) (sym s)
    (record {
      first_is = refl;
      blocks = refl;
      has = λ tid. none_within first tid;
      keys = λ tid. none_kept first records arena tid;
      met = λ tid. none_met first bits tid;
    })
