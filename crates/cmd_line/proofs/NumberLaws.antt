-- A word writes the number of which it is the decimal text, and no other.
use Rattle.std.proofs.Common.{◌≡◌, ◌<◌, ◌≤◌, ℕ, ◌^◌, Bool, true, false, ◌&&◌, List, Option, Some, None, if◌then◌else◌, refl, sym, ap, ◌∙◌, arith, decimal, bytes_eq, nat_lt, ◌↔◌, Result}
use Rattle.std.proofs.lemmas.Bool.{false≢true, lt-ltb, ltb-false, ltb-true}
use Rattle.std.proofs.lemmas.Fmt.{digits_value-decimal, parse-decimal}
use Rattle.std.proofs.lemmas.Slice.Eq.{bytes_eq-Decides}
use Rattle.std.proofs.lemmas.Str.Parse.{numerals_by_value, tells_digits}
use Rattle.std.specs.Result.{result_ok}
use Rattle.std.specs.Str.Parse.{AllDigits, ParsesUnsigned, digits_value}
use Rattle.cmd_line.specs.Numbers.{Writes, number_written, u64_written}

chosen : (same small : Bool) (m n : ℕ) → same ≡ true → small ≡ true → m ≡ n → (if same && small then Some m else None) ≡ Some n
chosen true true m n e f is = ap Some is
chosen true false m n e f is = cc
chosen false small m n e f is = cc

taken : (same small : Bool) (m n : ℕ) → (if same && small then Some m else None) ≡ Some n → (same ≡ true) × (small ≡ true) × (m ≡ n)
taken true true m n e = let is : m ≡ n = cc in (refl, refl, is)
taken true false m n e = cc
taken false small m n e = cc

module _ (bound : ℕ) (few : bound ≤ 2 ^ 64) (word : List ℕ) where
  pub text_is_written : (n : ℕ) → Writes bound word n → number_written bound word ≡ Some n
  unfolding number_written
  text_is_written n writes =
      let value : digits_value 10 word ≡ n =
      ap (digits_value 10) writes.0 ∙ digits_value-decimal (numerals_by_value (AllDigits 10) tells_digits) n (omega (arith, writes.1, few)) in
      let small = lt-ltb (digits_value 10 word) bound (omega (arith, value, writes.1)) in
      chosen _ _ (digits_value 10 word) n ((bytes_eq-Decides word _).1 (writes.0 ∙ ap decimal (sym value))) small value

  pub written_is_text : (n : ℕ) → number_written bound word ≡ Some n → Writes bound word n
  unfolding number_written
  written_is_text n e =
      let parts = taken (bytes_eq word (decimal (digits_value 10 word))) (nat_lt (digits_value 10 word) bound) (digits_value 10 word) n e in
      let small = ltb-true (digits_value 10 word) bound parts.1 in
      ((bytes_eq-Decides word _).0 parts.0 ∙ ap decimal parts.2, omega (arith, small, parts.2))

  -- no number is written where none can be
  pub none_written : ((n : ℕ) → Writes bound word n → ⊥) → (o : Option ℕ) → number_written bound word ≡ o → None ≡ o
  none_written never None is = refl
  none_written never (Some n) is = absurd (never n (written_is_text n is))

  -- what is told is what is written
  pub means : (told : Option ℕ) → told ≡ number_written bound word → (n : ℕ) → (told ≡ Some n) ↔ Writes bound word n
  means told is n = (λ e. written_is_text n (sym is ∙ e), λ writes. is ∙ text_is_written n writes)

-- where a number is written, that one is parsed
pub written_is_parsed : {E : Type 0} (word : List ℕ) (r : Result ℕ E) (n : ℕ) → ParsesUnsigned 64 10 word r → Writes (2 ^ 64) word n → result_ok r ≡ Some n
written_is_parsed word r n parses writes = ap result_ok (parse-decimal 64 n word r writes.1 writes.1 writes.0 parses)

-- nothing is written where nothing is parsed, or where the text of what is parsed is another
pub not_parsed : (n : ℕ) (parsed : Option ℕ) → parsed ≡ Some n → parsed ≡ None → ⊥
not_parsed n parsed is none = cc

pub other_text : (word text : List ℕ) (n number : ℕ) (parsed : Option ℕ) → Writes (2 ^ 64) word n → parsed ≡ Some n → parsed ≡ Some number → text ≡ decimal number → bytes_eq text word ≡ false → ⊥
other_text word text n number parsed writes is found printed other =
    let same : number ≡ n = cc in
    false≢true (sym other ∙ (bytes_eq-Decides text word).1 (printed ∙ ap decimal same ∙ sym writes.0))

-- Numbers below a lower bound

-- a word that writes no number, or one that isn't below the bound, writes none below it
pub none_narrowed : (bound : ℕ) → bound ≤ 2 ^ 64 → (word : List ℕ) → u64_written word ≡ None → None ≡ number_written bound word
none_narrowed bound few word none =
    none_written bound few word
    (λ n writes. not_parsed n (u64_written word) (text_is_written (2 ^ 64) (omega arith) word n (writes.0, omega (arith, writes.1, few))) none)
    (number_written bound word) refl

pub large_narrowed : (bound : ℕ) → bound ≤ 2 ^ 64 → (word : List ℕ) (n : ℕ) → u64_written word ≡ Some n → bound ≤ n → None ≡ number_written bound word
large_narrowed bound few word n is large =
    none_written bound few word (λ m writes. other m writes (same m writes)) (number_written bound word) refl
  where
    same : (m : ℕ) → Writes bound word m → m ≡ n
    same m writes = let both = text_is_written (2 ^ 64) (omega arith) word m (writes.0, omega (arith, writes.1, few)) in cc

    other : (m : ℕ) → Writes bound word m → m ≡ n → ⊥
    other m writes e = omega (arith, writes.1, e, large)

-- one that is below it writes it
pub narrowed : (bound : ℕ) → bound ≤ 2 ^ 64 → (word : List ℕ) (n : ℕ) → u64_written word ≡ Some n → n < bound → Some n ≡ number_written bound word
narrowed bound few word n is small =
    let writes = written_is_text (2 ^ 64) (omega arith) word n is in
    sym (text_is_written bound few word n (writes.0, small))

pub narrowed_is : (bound : ℕ) → bound ≤ 2 ^ 64 → (word : List ℕ) (n : ℕ) → u64_written word ≡ Some n → (if nat_lt n bound then Some n else None) ≡ number_written bound word
narrowed_is bound few word n is = by (nat_lt n bound) refl
  where
    by : (small : Bool) → nat_lt n bound ≡ small → (if nat_lt n bound then Some n else None) ≡ number_written bound word
    by true e = ap (λ (b : Bool). if b then Some n else None) e ∙ narrowed bound few word n is (ltb-true n bound e)
    by false e = ap (λ (b : Bool). if b then Some n else None) e ∙ large_narrowed bound few word n is (ltb-false n bound e)
