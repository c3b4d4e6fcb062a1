-- The division of a message.
use Rattle.std.proofs.Common.{◌≡◌, ◌∙◌, ℕ, zero, suc, ◌+◌, ◌/◌, ◌%◌, ◌^◌, ◌<◌, ◌≤◌, Bool, true, false, List, [], ◌∷◌, ◌++◌, length, refl, ap, sym, subst, arith, add-one, add-zero, append_assoc, length-append, lit<}
use Rattle.std.specs.Prelude.{◌==◌, ◌&&◌, bit_xor}
use Rattle.cluster_control.specs.Crc.{added, below_leading, bits, crc_of, dividend, generator, IsCrc, IsRemainder, message_bits, number_of_bits, ones}
use Rattle.cluster_control.specs.Crc.{product, remainder, rest_of, Shifts, times, xor, zeros}
use Rattle.cluster_control.proofs.Bits.{absorb, bits-next, bits-number, bits_below, bits_ones, bits_xor, length_bits, number-bits, number_fits, xor_below}
use Rattle.cluster_control.proofs.Sums.{added_assoc, added_back, added_last, added_times_false, added_zeros, and-true, length_added, length_times, length_zeros}
use Rattle.cluster_control.proofs.Sums.{times_true, to_zeros, xor-false, zeros_more}

pub length_low : length below_leading ≡ 32
unfolding below_leading
length_low = length_bits 32 0x82F6_3B78

length_part : (a : Bool) → length (times a below_leading) ≡ 32
length_part a = length_times a below_leading ∙ length_low

-- one step of long division
next_is : (n : ℕ) (a : Bool) (whole : List Bool) → remainder (n + 1) (a ∷ whole) ≡ remainder n (added (times a below_leading) whole)
unfolding remainder
next_is n a whole = rw add-one refl

-- of a register with the lowest bit b and the others r
step : (n : ℕ) (b : Bool) (r rest : List Bool) → length r ≡ 31 → 32 ≤ length rest
    → remainder (n + 1) (added (b ∷ r) (false ∷ rest)) ≡ remainder n (added (added (times b below_leading) (r ++ false ∷ [])) rest)
step n b r rest few long =
    ap (λ (t : Bool). remainder (n + 1) (t ∷ added r rest)) (xor-false b)
    ∙ next_is n b (added r rest)
    ∙ ap (λ (t : List Bool). remainder n (added (times b below_leading) t)) (sym (added_last r rest (omega arith)))
    ∙ ap (remainder n) (sym (added_assoc (times b below_leading) (r ++ false ∷ []) rest))

-- the register shifted by one
shifted_is : (register : ℕ) → register < 2 ^ 32 → bits 32 (register / 2) ≡ bits 31 (register / 2) ++ false ∷ []
shifted_is register fits = bits_below 31 (register / 2) (omega arith)

by_step : (register new : ℕ) (b : Bool) → (register % 2 == 1) ≡ b
    → bits 32 new ≡ added (times b below_leading) (bits 31 (register / 2) ++ false ∷ []) → Shifts 1 register new
unfolding Shifts
by_step register new b low is = λ n rest long.
    let others = bits 31 (register / 2) in
    ap (λ (t : List Bool). remainder (n + 1) (added t (false ∷ rest))) (bits-next 31 register)
    ∙ ap (λ (t : Bool). remainder (n + 1) (added (t ∷ others) (false ∷ rest))) low
    ∙ step n b others rest (length_bits 31 (register / 2)) long
    ∙ ap (λ (t : List Bool). remainder n (added t rest)) (sym is)

pub shift_odd : (register : ℕ) → register < 2 ^ 32 → (register % 2 == 1) ≡ true → Shifts 1 register (bit_xor 0x82F6_3B78 (register / 2))
unfolding below_leading
shift_odd register fits odd = by_step register _ true odd
    (bits_xor 32 0x82F6_3B78 (register / 2)
    ∙ λ i. added (sym (times_true below_leading) i) (shifted_is register fits i))

pub shift_even : (register : ℕ) → register < 2 ^ 32 → (register % 2 == 1) ≡ false → Shifts 1 register (register / 2)
shift_even register fits even = by_step register _ false even
    (shifted_is register fits
    ∙ sym (added_times_false below_leading (bits 31 (register / 2) ++ false ∷ [])
    (omega (arith, length_low, length-append (bits 31 (register / 2)) (false ∷ []), length_bits 31 (register / 2)))))

-- no step yet, and one more
pub shift_none : (register : ℕ) → Shifts 0 register register
unfolding Shifts
shift_none register = λ n rest long. rw add-zero refl

pub shift_more : (k a b c : ℕ) → Shifts k a b → Shifts 1 b c → Shifts (k + 1) a c
unfolding Shifts
shift_more k a b c before now = λ n rest long.
    let steps : n + (k + 1) ≡ (n + 1) + k = omega arith in
    let front : zeros (k + 1) ++ rest ≡ zeros k ++ (false ∷ rest) = rw add-one (zeros_more k rest) in
    (λ i. remainder (steps i) (added (bits 32 a) (front i)))
    ∙ before (n + 1) (false ∷ rest) (omega arith)
    ∙ now n rest long

-- a byte that comes
pub byte_comes : (register byte new : ℕ) (bytes : List ℕ) → byte < 256 → Shifts 8 (bit_xor register byte) new
    → rest_of register (byte ∷ bytes) ≡ rest_of new bytes
unfolding rest_of message_bits Shifts
byte_comes register byte new bytes fits shifts =
    let front = bits 8 byte in
    let bs = message_bits bytes in
    let steps : length (front ++ bs) ≡ length bs + 8 = omega (arith, length-append front bs, length_bits 8 byte) in
    let rest = bs ++ zeros 32 in
    let turn : (front ++ bs) ++ zeros 32 ≡ front ++ rest = append_assoc front bs (zeros 32) in
    (λ i. remainder (steps i) (added (bits 32 register) (turn i)))
    ∙ ap (remainder (length bs + 8)) (absorb 32 8 register byte rest (omega arith) fits)
    ∙ shifts (length bs) rest (omega (arith, length-append bs (zeros 32), length_zeros 32))

-- at the end the register is what is left
pub at_end : (register : ℕ) → rest_of register [] ≡ bits 32 register
unfolding rest_of message_bits remainder
at_end register =
    ap (λ n. added (bits 32 register) (zeros n)) (sym (length_bits 32 register)) ∙ to_zeros (bits 32 register)

pub at_start : (bytes : List ℕ) → remainder (length (message_bits bytes)) (dividend bytes) ≡ rest_of 4294967295 bytes
unfolding rest_of
at_start bytes =
    ap (λ (t : List Bool). remainder (length (message_bits bytes)) (added t (message_bits bytes ++ zeros 32))) (sym bits_ones)

-- the register with all its bits turned is the CRC
pub turned : (bytes : List ℕ) (register : ℕ) → register < 2 ^ 32 → rest_of register [] ≡ rest_of 4294967295 bytes
    → bit_xor 4294967295 register ≡ crc_of bytes
unfolding crc_of
turned bytes register fits whole =
    sym (number-bits 32 (bit_xor 4294967295 register) (xor_below 32 4294967295 register (lit< tt) fits))
    ∙ ap number_of_bits
    (bits_xor 32 4294967295 register
    ∙ (λ i. added (bits_ones i) ((sym (at_end register) ∙ whole ∙ sym (at_start bytes)) i)))

-- Division leaves a remainder, and no other

length_product : (q : List Bool) → length (product q) ≡ length q + 32
unfolding product
length_product [] = length_zeros 32
length_product (a ∷ q) =
    let below = length_product q in
    let here : length (added (times a generator) (false ∷ product q)) ≡ length (false ∷ product q) =
    length_added (times a generator) (false ∷ product q) (omega (arith, length_times a generator, length_low, below)) in
    omega arith

length_remainder : (n : ℕ) (whole : List Bool) → length whole ≡ n + 32 → length (remainder n whole) ≡ 32
unfolding remainder
length_remainder zero whole e = omega arith
length_remainder (suc n) [] e = absurd (omega arith)
length_remainder (suc n) (a ∷ whole) e =
    length_remainder n (added (times a below_leading) whole)
    (length_added (times a below_leading) whole (omega (arith, length_part a)) ∙ omega arith)

-- the first coefficient of a product and what is behind it
product_head : (a : Bool) (q z : List Bool)
    → added (product (a ∷ q)) (false ∷ z) ≡ a ∷ added (times a below_leading) (added (product q) z)
unfolding product
product_head a q z = λ i.
    (xor-false (xor (a && true) false) ∙ xor-false (a && true) ∙ and-true a) i
    ∷ added_assoc (times a below_leading) (product q) z i

pub leaves : (n : ℕ) (whole : List Bool) → length whole ≡ n + 32 → IsRemainder whole (remainder n whole)
unfolding remainder product
leaves zero whole e = record {
  quotient = [];
  short = omega arith;
  divided = sym (added_zeros 32 whole (omega arith));
}
leaves (suc n) [] e = absurd (omega arith)
leaves (suc n) (a ∷ whole) e =
    let part = times a below_leading in
    let long : 32 ≤ length whole = omega arith in
    let fits : length part ≤ length whole = omega (arith, length_part a) in
    let below = leaves n (added part whole) (length_added part whole fits ∙ omega arith) in
    let z = zeros (length below.quotient) ++ remainder n (added part whole) in
    record {
      quotient = a ∷ below.quotient;
      short = below.short;
      divided =
          ap (λ (t : List Bool). a ∷ t) (sym (added_back part whole fits) ∙ ap (added part) below.divided)
          ∙ sym {a = added (product (a ∷ below.quotient)) (false ∷ z)} {b = a ∷ added part (added (product below.quotient) z)} (product_head a below.quotient z);
    }

pub alone : (q rest : List Bool) → length rest ≡ 32
    → remainder (length q) (added (product q) (zeros (length q) ++ rest)) ≡ rest
unfolding remainder product
alone [] rest e = added_zeros 32 rest (omega arith)
alone (a ∷ q) rest e =
    let part = times a below_leading in
    let z = zeros (length q) ++ rest in
    let wide : length z ≡ length q + 32 = omega (arith, length-append (zeros (length q)) rest, length_zeros (length q)) in
    let long : length (added (product q) z) ≡ length z = length_added (product q) z (omega (arith, length_product q)) in
    ap (remainder (suc (length q))) (product_head a q z)
    ∙ ap (remainder (length q)) (added_back part (added (product q) z) (omega (arith, length_part a)))
    ∙ alone q rest e

length_whole : (q rest : List Bool) → length rest ≡ 32 → length (added (product q) (zeros (length q) ++ rest)) ≡ length q + 32
length_whole q rest e =
    let z = zeros (length q) ++ rest in
    let wide : length z ≡ length q + 32 = omega (arith, length-append (zeros (length q)) rest, length_zeros (length q)) in
    length_added (product q) z (omega (arith, length_product q)) ∙ wide

length_dividend : (bytes : List ℕ) → length (dividend bytes) ≡ length (message_bits bytes) + 32
length_dividend bytes =
    let m = message_bits bytes ++ zeros 32 in
    let wide : length m ≡ length (message_bits bytes) + 32 = omega (arith, length-append (message_bits bytes) (zeros 32), length_zeros 32) in
    length_added ones m (omega arith) ∙ wide

pub crc_is : (bytes : List ℕ) → IsCrc bytes (crc_of bytes)
unfolding crc_of
crc_is bytes =
    let n = length (message_bits bytes) in
    let left = remainder n (dividend bytes) in
    let few : length left ≡ 32 = length_remainder n (dividend bytes) (length_dividend bytes) in
    let wide : length (added ones left) ≡ 32 = length_added ones left (omega arith) ∙ few in
    let back : added ones (bits 32 (number_of_bits (added ones left))) ≡ left =
    ap (λ k. added ones (bits k (number_of_bits (added ones left)))) (sym wide)
    ∙ ap (added ones) (bits-number (added ones left))
    ∙ added_back ones left (omega arith) in
    record {
      fits = subst (λ k. number_of_bits (added ones left) < 2 ^ k) wide (number_fits (added ones left));
      remains = subst (λ (t : List Bool). IsRemainder (dividend bytes) t) (sym back) (leaves n (dividend bytes) (length_dividend bytes));
    }

pub crc_alone : (bytes : List ℕ) (crc : ℕ) → IsCrc bytes crc → crc ≡ crc_of bytes
unfolding crc_of
crc_alone bytes crc is =
    let q = is.remains.quotient in
    let rest = added ones (bits 32 crc) in
    let whole : length (dividend bytes) ≡ length q + 32 = ap length is.remains.divided ∙ length_whole q rest is.remains.short in
    let steps : length (message_bits bytes) ≡ length q = omega (arith, length_dividend bytes) in
    let left : remainder (length (message_bits bytes)) (dividend bytes) ≡ rest =
    (λ i. remainder (steps i) (is.remains.divided i)) ∙ alone q rest is.remains.short in
    sym (ap (λ (t : List Bool). number_of_bits (added ones t)) left
    ∙ ap number_of_bits (added_back ones (bits 32 crc) (omega (arith, length_bits 32 crc)))
    ∙ number-bits 32 crc is.fits)
