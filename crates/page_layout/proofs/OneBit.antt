-- A bit that is set, and bytes of zeros that come behind.
use Rattle.std.proofs.Common.{◌≡◌, ◌∙◌, ℕ, ◌+◌, ◌-◌, ◌*◌, ◌/◌, ◌%◌, ◌^◌, ◌<◌, ◌≤◌, List, ◌++◌, length, get_or, take, ap, sym, arith, inl, inr}
use Rattle.std.proofs.Common.{get_or-set_other, get_or-set_same}
use Rattle.std.specs.Prelude.{◌==◌, ◌||◌, bit_or, slice_set, replicate}
use Rattle.std.specs.Int.{bit_at, w8}
use Rattle.std.proofs.lemmas.Bool.{cases_eq, cases_lt, eq-eqb, ne_eqb, or_left}
use Rattle.std.proofs.lemmas.List.{get_or-replicate, get_or_append_left, get_or-append-add, get_or_past, length-replicate, take_all}
use Rattle.std.proofs.lemmas.Nat.Bits.{bit_at_set_same, bit_at_set_other}
use Rattle.page_layout.specs.Bits.{is_set}

-- in one byte
same_byte : (byte i j : ℕ) → i < 8
    → (bit_at (bit_or byte (1 * 2 ^ i % 256)) j == 1) ≡ ((j == i) || (bit_at byte j == 1))
same_byte byte i j small = elim (cases_eq j i) [
  | inl e ↦
      ap (λ q. bit_at (bit_or byte (1 * 2 ^ i % 256)) q == 1) e
      ∙ ap (λ b. b == 1) (bit_at_set_same w8 byte i small)
      ∙ sym (or_left (j == i) (bit_at byte j == 1) (eq-eqb j i e))
  | inr n ↦
      ap (λ b. b == 1) (bit_at_set_other w8 byte i small j n)
      ∙ sym (ap (λ b. b || (bit_at byte j == 1)) (ne_eqb j i n))
]

-- two places of one byte
same_place : (p place : ℕ) → p / 8 ≡ place / 8 → (p % 8 == place % 8) ≡ (p == place)
same_place p place e = elim (cases_eq p place) [
  | inl same ↦ eq-eqb (p % 8) (place % 8) (ap (λ x. x % 8) same) ∙ sym (eq-eqb p place same)
  | inr n ↦ ne_eqb (p % 8) (place % 8) (λ same. n (omega arith)) ∙ sym (ne_eqb p place n)
]

pub set_one : (bits : List ℕ) (place p : ℕ) → place < 8 * length bits
    → is_set (slice_set bits (place / 8) (bit_or (get_or bits (place / 8) 0) (1 * 2 ^ (place % 8) % 256))) p
    ≡ ((p == place) || is_set bits p)
unfolding is_set
set_one bits place p fits =
    let byte = get_or bits (place / 8) 0 in
    let new = bit_or byte (1 * 2 ^ (place % 8) % 256) in
    elim (cases_eq (p / 8) (place / 8)) [
      | inl e ↦
          ap (λ k. bit_at (get_or (slice_set bits (place / 8) new) k 0) (p % 8) == 1) e
          ∙ ap (λ b. bit_at b (p % 8) == 1) (get_or-set_same bits (place / 8) new 0 (omega arith))
          ∙ same_byte byte (place % 8) (p % 8) (omega arith)
          ∙ ap (λ t. t || (bit_at byte (p % 8) == 1)) (same_place p place e)
          ∙ ap (λ k. (p == place) || (bit_at (get_or bits k 0) (p % 8) == 1)) (sym e)
      | inr n ↦
          ap (λ b. bit_at b (p % 8) == 1) (get_or-set_other bits (place / 8) (p / 8) new 0 n)
          ∙ sym (ap (λ t. t || (bit_at (get_or bits (p / 8) 0) (p % 8) == 1)) (ne_eqb p place (λ e. n (ap (λ x. x / 8) e))))
    ]

all_zeros : (n k : ℕ) → get_or (replicate {A = ℕ} n 0) k 0 ≡ 0
all_zeros n k = elim (cases_lt k n) [
  | inl below ↦ get_or-replicate n k 0 0 below
  | inr past ↦ get_or_past (replicate n 0) k 0 (omega (arith, length-replicate {A = ℕ} n 0))
]

-- a byte of a list and of zeros behind it
same_bytes : (bits : List ℕ) (n k : ℕ) → get_or (bits ++ replicate n 0) k 0 ≡ get_or bits k 0
same_bytes bits n k = elim (cases_lt k (length bits)) [
  | inl below ↦ get_or_append_left bits (replicate n 0) 0 k below
  | inr past ↦
      let e : k ≡ length bits + (k - length bits) = omega arith in
      ap (λ q. get_or (bits ++ replicate n 0) q 0) e
      ∙ get_or-append-add bits (replicate n 0) (k - length bits) 0
      ∙ all_zeros n (k - length bits)
      ∙ sym (get_or_past bits k 0 past)
]

pub zeros_behind : (bits : List ℕ) (n p : ℕ) → is_set (bits ++ replicate n 0) p ≡ is_set bits p
unfolding is_set
zeros_behind bits n p = ap (λ b. bit_at b (p % 8) == 1) (same_bytes bits n (p / 8))

-- bytes that were filled up by zeros
pub filled_up : (bits : List ℕ) (have bytes p : ℕ) → have ≡ length bits → have ≤ bytes
    → is_set (take bytes bits ++ replicate (bytes - have) 0) p ≡ is_set bits p
filled_up bits have bytes p e short =
    ap (λ b. is_set (b ++ replicate (bytes - have) 0) p) (take_all bytes bits (omega arith))
    ∙ zeros_behind bits (bytes - have) p
