-- Numbers in decimal are read back, and are free of all that ends a field.
use Rattle.std.proofs.Common.{◌≡◌, ℕ, zero, suc, ◌+◌, ◌<◌, ◌≤◌, ◌%◌, ◌^◌, ◌==◌, false, cond, List, [], ◌∷◌, length, ap, ◌∙◌, arith}
use Rattle.std.specs.Prelude.{ℤ, pos, negsuc, decimal}
use Rattle.std.specs.Fmt.{signed_decimal}
use Rattle.std.specs.List.{AllByRecursion}
use Rattle.std.specs.Str.Parse.{digits_value}
use Rattle.std.proofs.lemmas.Bool.{cond-false}
use Rattle.std.proofs.lemmas.Fmt.{decimal_by_steps, decimal_is_IsNumeral}
use Rattle.std.specs.Int.Signed.{mag}
use Rattle.copy_out.proofs.Breaks.{AllFree, IsFree, each-append, each-weaker}

abbrev pub IsDigit : ℕ → Type 0
IsDigit b = (48 ≤ b) × (b ≤ 57)

pub decimal_digits : (n : ℕ) → n < 2 ^ 64 → AllByRecursion IsDigit (decimal n)
decimal_digits n small =
    decimal_by_steps (λ n ds. AllByRecursion IsDigit ds) (λ n lt. ((omega arith, omega arith), tt))
    (λ n ds le h. each-append IsDigit ds ((48 + n % 10) ∷ []) h ((omega arith, omega arith), tt)) n small

digit_free : (b : ℕ) → IsDigit b → IsFree b
digit_free b d = record { no_tab = λ e. omega arith; no_line_feed = λ e. omega arith; no_backslash = λ e. omega arith }

pub signed_free : (z : ℤ) → mag z < 2 ^ 63 → AllFree (signed_decimal z)
signed_free (pos n) small = each-weaker IsDigit IsFree digit_free (decimal n) (decimal_digits n (omega arith))
signed_free (negsuc n) small = (
  record { no_tab = λ e. omega arith; no_line_feed = λ e. omega arith; no_backslash = λ e. omega arith },
  each-weaker IsDigit IsFree digit_free (decimal (suc n)) (decimal_digits (suc n) (omega arith)),
)

-- the number below zero of this size
abbrev minus : ℕ → ℤ
minus zero = pos 0
minus (suc n) = negsuc n

-- the number of a sign and digits
abbrev pub number_read : List ℕ → ℤ
number_read [] = pos 0
number_read (b ∷ ds) = cond (b == 45) (minus (digits_value 10 ds)) (pos (digits_value 10 (b ∷ ds)))

no_sign : (b : ℕ) → IsDigit b → (b == 45) ≡ false
no_sign b d = grind arith

read_plain : (ds : List ℕ) (n : ℕ) → AllByRecursion IsDigit ds → digits_value 10 ds ≡ n → 0 < length ds → number_read ds ≡ pos n
read_plain [] n h e some = absurd (omega arith)
read_plain (b ∷ ds) n h e some = cond-false _ _ _ (no_sign b h.0) ∙ ap pos e

pub number_read-signed : (z : ℤ) → mag z < 2 ^ 63 → number_read (signed_decimal z) ≡ z
number_read-signed (pos n) small =
    let k = decimal_is_IsNumeral n (omega arith) in
    read_plain (decimal n) n (decimal_digits n (omega arith)) k.1 k.0.0
number_read-signed (negsuc n) small =
    let k = decimal_is_IsNumeral (suc n) (omega arith) in
    ap minus k.1
