-- Hexadecimal digits are read back, and are free of all that ends a field.
use Rattle.std.proofs.Common.{◌≡◌, ◌≢◌, ℕ, ◌/◌, ◌%◌, ◌==◌, Bool, true, ◌&&◌, not, List, [], ◌∷◌, slice_index, refl, arith}
use Rattle.std.specs.List.{AllByRecursion}
use Rattle.std.proofs.lemmas.Bool.{and_parts}
use Rattle.hex.specs.Hex.{IsBytes, encode_lower, encode_with, lower_digits}
use Rattle.hex.proofs.HexLemmas.{decode_of-encode_lower}
use Rattle.copy_out.specs.Readings.{bytes_read}
use Rattle.copy_out.proofs.Breaks.{IsFree, each-at}

-- free, and no hyphen
pub record IsHexDigit (b : ℕ) : Type 0 where
  pub free : IsFree b
  pub no_hyphen : b ≢ 45

abbrev is_digit : ℕ → Bool
is_digit b = not (b == 9) && not (b == 10) && not (b == 92) && not (b == 45)

abbrev are_digits : List ℕ → Bool
are_digits [] = true
are_digits (b ∷ bs) = is_digit b && are_digits bs

digit_is : (b : ℕ) → is_digit b ≡ true → IsHexDigit b
digit_is b h = record {
  free = record { no_tab = λ e. grind arith; no_line_feed = λ e. grind arith; no_backslash = λ e. grind arith };
  no_hyphen = λ e. grind arith;
}

digits_are : (bs : List ℕ) → are_digits bs ≡ true → AllByRecursion IsHexDigit bs
digits_are [] h = tt
digits_are (b ∷ bs) h = let parts = and_parts (is_digit b) (are_digits bs) h in (digit_is b parts.0, digits_are bs parts.1)

digit_at : (k : ℕ) → IsHexDigit (slice_index lower_digits k)
digit_at k = each-at IsHexDigit lower_digits k (digit_is 0 refl) (digits_are lower_digits refl)

pub encode_digits : (bytes : List ℕ) → AllByRecursion IsHexDigit (encode_lower bytes)
unfolding encode_with
encode_digits [] = tt
encode_digits (b ∷ bytes) = (digit_at (b / 16), (digit_at (b % 16), encode_digits bytes))

pub bytes_read-encode : (bytes : List ℕ) → IsBytes bytes → bytes_read (encode_lower bytes) ≡ bytes
unfolding bytes_read
bytes_read-encode bytes h = rw (decode_of-encode_lower bytes h) refl
