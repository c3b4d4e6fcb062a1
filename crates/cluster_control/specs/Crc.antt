-- CRC-32C: what is left when a message is divided by a polynomial.
--
-- Coefficients are the two elements false and true, of which the sum is `xor` and the product `and`. A
-- polynomial is the list of its coefficients, that of the highest degree first. So a message is one as its
-- bits are sent: byte by byte, and of each byte the lowest bit first.
use Rattle.std.specs.Prelude.{◌≡◌, ℕ, zero, suc, ◌+◌, ◌*◌, ◌/◌, ◌%◌, ◌^◌, ◌<◌, ◌≤◌, ◌==◌, ◌&&◌, Bool, true, false, not}
use Rattle.std.specs.Prelude.{List, [], ◌∷◌, ◌++◌, length, map, replicate}

-- the sum of two coefficients
abbrev pub xor : Bool → Bool → Bool
xor false b = b
xor true b = not b

-- The sum of two lists of coefficients, laid side by side from their heads; what one has behind the end of
-- the other stays. Of lists of one length it is the sum of the polynomials.
abbrev pub added : List Bool → List Bool → List Bool
added [] ys = ys
added (x ∷ xs) [] = x ∷ xs
added (x ∷ xs) (y ∷ ys) = xor x y ∷ added xs ys

-- a coefficient's multiple of a polynomial
abbrev pub times : Bool → List Bool → List Bool
times a p = map (λ b. a && b) p

-- so many coefficients false: the polynomial 0
abbrev pub zeros : ℕ → List Bool
zeros n = replicate n false

-- the lowest w bits of a number, the lowest first
unfoldable pub bits : ℕ → ℕ → List Bool
bits zero n = []
bits (suc w) n = (n % 2 == 1) ∷ bits w (n / 2)

-- the number of which these are the bits, the lowest first
abbrev pub flag_number : Bool → ℕ
flag_number false = 0
flag_number true = 1

unfoldable pub number_of_bits : List Bool → ℕ
number_of_bits [] = 0
number_of_bits (b ∷ bs) = flag_number b + 2 * number_of_bits bs

-- x^28 + x^27 + x^26 + x^25 + x^23 + x^22 + x^20 + x^19 + x^18 + x^14 + x^13 + x^11 + x^10 + x^9 + x^8 + x^6 + 1,
-- from x^31 down: the bits of 0x82F63B78, the lowest first
unfoldable pub below_leading : List Bool
below_leading = bits 32 0x82F6_3B78

-- the polynomial by which a message is divided: x^32 and these
abbrev pub generator : List Bool
generator = true ∷ below_leading

-- Its product with another polynomial, which has 32 coefficients more: the multiples by each coefficient,
-- each at its place.
unfoldable pub product : List Bool → List Bool
product [] = zeros 32
product (a ∷ q) = added (times a generator) (false ∷ product q)

-- this is left when a polynomial is divided by the generator: with a multiple of the generator it makes the whole,
-- and its degree is below 32
pub record IsRemainder (whole rest : List Bool) : Type 0 where
  pub quotient : List Bool
  pub short : length rest ≡ 32
  pub divided : whole ≡ added (product quotient) (zeros (length quotient) ++ rest)

-- the bits of a message as they are sent
unfoldable pub message_bits : List ℕ → List Bool
message_bits [] = []
message_bits (byte ∷ bytes) = bits 8 byte ++ message_bits bytes

-- 32 coefficients true: what turns bits
abbrev pub ones : List Bool
ones = replicate 32 true

-- what is divided: the message times x^32, with its first 32 bits turned
abbrev pub dividend : List ℕ → List Bool
dividend bytes = added ones (message_bits bytes ++ zeros 32)

-- a number of 32 bits is the CRC-32C of a message: its bits, the lowest first and all turned, are left
pub record IsCrc (bytes : List ℕ) (crc : ℕ) : Type 0 where
  pub fits : crc < 2 ^ 32
  pub remains : IsRemainder (dividend bytes) (added ones (bits 32 crc))

-- what is left after n steps of long division, each of which takes the first coefficient away: where it is true,
-- the generator is subtracted there, which in these coefficients is to add it
unfoldable pub remainder : ℕ → List Bool → List Bool
remainder zero whole = whole
remainder (suc n) [] = []
remainder (suc n) (a ∷ whole) = remainder n (added (times a below_leading) whole)

-- the CRC-32C of a message: the only number that is one
unfoldable pub crc_of : List ℕ → ℕ
crc_of bytes = number_of_bits (added ones (remainder (length (message_bits bytes)) (dividend bytes)))

-- k steps of the division take the register `old` to `new`: the 32 coefficients of the highest degrees, the
-- lowest bit first, where the k next bits of the message were added to it before
unfoldable pub Shifts : ℕ → ℕ → ℕ → Type 0
Shifts k old new =
    (n : ℕ) (rest : List Bool) → 32 ≤ length rest
    → remainder (n + k) (added (bits 32 old) (zeros k ++ rest)) ≡ remainder n (added (bits 32 new) rest)

-- what is left where the register has this number and these bytes are still to come
unfoldable pub rest_of : ℕ → List ℕ → List Bool
rest_of register bytes =
    remainder (length (message_bits bytes)) (added (bits 32 register) (message_bits bytes ++ zeros 32))
