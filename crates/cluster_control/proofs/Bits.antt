-- The bits of numbers.
use Rattle.std.proofs.Common.{◌≡◌, ◌∙◌, ℕ, zero, suc, ◌+◌, ◌*◌, ◌/◌, ◌%◌, ◌^◌, ◌<◌, ◌≤◌, Bool, true, false, List, [], ◌∷◌, ◌++◌, length, refl, ap, sym, arith}
use Rattle.std.specs.Prelude.{◌==◌, bit_xor}
use Rattle.std.proofs.lemmas.Nat.Bits.{bit_at-suc, bit_at_lowest, bit_at_xor, same_from_bits}
use Rattle.cluster_control.specs.Crc.{added, bits, flag_number, number_of_bits, ones, xor, zeros}
use Rattle.cluster_control.proofs.Sums.{xor-false}

pub bits-next : (w n : ℕ) → bits (suc w) n ≡ (n % 2 == 1) ∷ bits w (n / 2)
unfolding bits
bits-next w n = refl

pub length_bits : (w n : ℕ) → length (bits w n) ≡ w
unfolding bits
length_bits zero n = refl
length_bits (suc w) n = ap (λ n. suc n) (length_bits w (n / 2))

-- the sum of two bits, as numbers and as coefficients
sum_of_bits : (a b : ℕ) → a < 2 → b < 2 → ((a + b) % 2 == 1) ≡ xor (a == 1) (b == 1)
sum_of_bits zero zero p q = refl
sum_of_bits zero (suc zero) p q = refl
sum_of_bits (suc zero) zero p q = refl
sum_of_bits (suc zero) (suc zero) p q = refl
sum_of_bits (suc (suc a)) b p q = absurd (omega arith)
sum_of_bits zero (suc (suc b)) p q = absurd (omega arith)
sum_of_bits (suc zero) (suc (suc b)) p q = absurd (omega arith)

lowest_xor : (a b : ℕ) → (bit_xor a b % 2 == 1) ≡ xor (a % 2 == 1) (b % 2 == 1)
lowest_xor a b =
    let sum : bit_xor a b % 2 ≡ (a % 2 + b % 2) % 2 =
    sym (bit_at_lowest (bit_xor a b)) ∙ bit_at_xor a b 0 ∙ (λ i. (bit_at_lowest a i + bit_at_lowest b i) % 2) in
    ap (λ n. n == 1) sum ∙ sum_of_bits (a % 2) (b % 2) (omega arith) (omega arith)

half_xor : (a b : ℕ) → bit_xor a b / 2 ≡ bit_xor (a / 2) (b / 2)
half_xor a b = same_from_bits _ _ (λ i.
    sym (bit_at-suc (bit_xor a b) i) ∙ bit_at_xor a b (suc i) ∙ (λ j. (bit_at-suc a i j + bit_at-suc b i j) % 2)
    ∙ sym (bit_at_xor (a / 2) (b / 2) i))

pub bits_xor : (w a b : ℕ) → bits w (bit_xor a b) ≡ added (bits w a) (bits w b)
unfolding bits
bits_xor zero a b = refl
bits_xor (suc w) a b = λ i. lowest_xor a b i ∷ (ap (bits w) (half_xor a b) ∙ bits_xor w (a / 2) (b / 2)) i

-- a number of w bits has none above
pub bits_below : (w n : ℕ) → n < 2 ^ w → bits (suc w) n ≡ bits w n ++ false ∷ []
unfolding bits
bits_below zero n lt = let none : n ≡ 0 = omega arith in rw none refl
bits_below (suc w) n lt = ap (λ (t : List Bool). (n % 2 == 1) ∷ t) (bits_below w (n / 2) (omega arith))

xor-zero : (a : ℕ) → bit_xor a 0 ≡ a
xor-zero a = same_from_bits _ _ (λ i. bit_at_xor a 0 i ∙ grind arith)

-- bits that come are added to a register's lowest, and none are left of them
pub absorb : (w k register byte : ℕ) (rest : List Bool) → k ≤ w → byte < 2 ^ k
    → added (bits w register) (bits k byte ++ rest) ≡ added (bits w (bit_xor register byte)) (zeros k ++ rest)
unfolding bits
absorb w zero register byte rest le lt =
    let none : byte ≡ 0 = omega arith in
    ap (λ n. added (bits w n) rest) (sym (ap (bit_xor register) none ∙ xor-zero register))
absorb zero (suc k) register byte rest le lt = absurd (omega arith)
absorb (suc w) (suc k) register byte rest le lt =
    let first = sym (lowest_xor register byte) ∙ sym (xor-false _) in
    let others = absorb w k (register / 2) (byte / 2) rest (omega arith) (omega arith)
    ∙ ap (λ n. added (bits w n) (zeros k ++ rest)) (sym (half_xor register byte)) in
    λ i. first i ∷ others i

-- all bits of the greatest number
pub bits_ones : bits 32 4294967295 ≡ ones
unfolding bits
bits_ones = refl

flag_of : (b : Bool) (n : ℕ) → ((flag_number b + 2 * n) % 2 == 1) ≡ b
flag_of false n = let even : (0 + 2 * n) % 2 ≡ 0 = omega arith in ap (λ x. x == 1) even
flag_of true n = let odd : (1 + 2 * n) % 2 ≡ 1 = omega arith in ap (λ x. x == 1) odd

flag_below : (b : Bool) → flag_number b < 2
flag_below false = omega arith
flag_below true = omega arith

-- a list of bits and its number
pub bits-number : (l : List Bool) → bits (length l) (number_of_bits l) ≡ l
unfolding bits number_of_bits
bits-number [] = refl
bits-number (b ∷ l) =
    let half : (flag_number b + 2 * number_of_bits l) / 2 ≡ number_of_bits l = omega (arith, flag_below b) in
    λ i. flag_of b (number_of_bits l) i ∷ (ap (bits (length l)) half ∙ bits-number l) i

flag_number_of : (m : ℕ) → m < 2 → flag_number (m == 1) ≡ m
flag_number_of zero lt = refl
flag_number_of (suc zero) lt = refl
flag_number_of (suc (suc m)) lt = absurd (omega arith)

pub number-bits : (w n : ℕ) → n < 2 ^ w → number_of_bits (bits w n) ≡ n
unfolding bits number_of_bits
number-bits zero n lt = omega arith
number-bits (suc w) n lt =
    let low = flag_number_of (n % 2) (omega arith) in
    let high = number-bits w (n / 2) (omega arith) in
    omega arith

below_by : (w : ℕ) (l : List Bool) → length l ≡ w → number_of_bits l < 2 ^ w
unfolding number_of_bits
below_by zero [] e = omega arith
below_by (suc w) [] e = omega arith
below_by zero (b ∷ l) e = absurd (omega arith)
below_by (suc w) (b ∷ l) e = omega (arith, below_by w l (omega arith), flag_below b)

pub number_fits : (l : List Bool) → number_of_bits l < 2 ^ length l
number_fits l = below_by (length l) l refl

-- no bit comes above those of both
pub xor_below : (w a b : ℕ) → a < 2 ^ w → b < 2 ^ w → bit_xor a b < 2 ^ w
xor_below zero a b p q =
    let none : a ≡ 0 = omega arith in
    let neither : b ≡ 0 = omega arith in
    let both : bit_xor a b ≡ 0 = λ i. bit_xor (none i) (neither i) in
    omega arith
xor_below (suc w) a b p q = omega (arith, half_xor a b, xor_below w (a / 2) (b / 2) (omega arith) (omega arith))
