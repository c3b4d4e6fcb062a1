-- Escaped bytes are read back, and neither end a field nor look like a mark.
use Rattle.std.proofs.Common.{◌≡◌, ◌≢◌, ℕ, ◌==◌, false, List, [], ◌∷◌, ◌++◌, Option, Some, None, refl, ap, ◌∙◌, arith}
use Rattle.std.specs.List.{flat_map}
use Rattle.std.proofs.lemmas.Bool.{cond-false}
use Rattle.copy_out.specs.Escapes.{escape, escape_by, escaped, letter_of}
use Rattle.copy_out.specs.Readings.{byte_of, unescaped}
use Rattle.copy_out.proofs.Breaks.{AllFree, IsClear, IsPlain, each-append}

byte_is : (b l : ℕ) → letter_of b ≡ Some l → byte_of l ≡ b
unfolding letter_of byte_of
byte_is b l e = grind arith

-- a byte without a letter is no backslash, tab or line feed
no_letter : (b : ℕ) → letter_of b ≡ None → (b == 92) ≡ false
unfolding letter_of
no_letter b e = grind arith

plain : (b : ℕ) → letter_of b ≡ None → IsPlain b
unfolding letter_of
plain b e = record { no_tab = λ is. grind (arith); no_line_feed = λ is. grind (arith) }

letter_is_plain : (b l : ℕ) → letter_of b ≡ Some l → IsPlain l
unfolding letter_of
letter_is_plain b l e = record { no_tab = λ is. grind (arith); no_line_feed = λ is. grind (arith) }

-- no letter is that of a mark
no_mark : (b l : ℕ) → letter_of b ≡ Some l → (l ≢ 78) × (l ≢ 35)
unfolding letter_of
no_mark b l e = (λ is. grind (arith), λ is. grind (arith))

unescaped_step : (b : ℕ) (o : Option ℕ) (rest bytes : List ℕ) → letter_of b ≡ o → unescaped rest false ≡ bytes
    → unescaped (escape_by b o ++ rest) false ≡ b ∷ bytes
unescaped_step b (Some l) rest bytes is e =
    let byte = byte_is b l is in
    cc
unescaped_step b None rest bytes is e = cond-false _ _ _ (no_letter b is) ∙ ap (λ (r : List ℕ). b ∷ r) e

-- escaped bytes are read back
pub unescaped_escaped : (bytes : List ℕ) → unescaped (escaped bytes) false ≡ bytes
unfolding escaped
unescaped_escaped [] = refl
unescaped_escaped (b ∷ bytes) = unescaped_step b (letter_of b) (flat_map escape bytes) bytes refl (unescaped_escaped bytes)

escape_clear : (b : ℕ) (o : Option ℕ) → letter_of b ≡ o → IsClear (escape_by b o)
escape_clear b (Some l) is = (record { no_tab = λ e. omega arith; no_line_feed = λ e. omega arith }, (letter_is_plain b l is, tt))
escape_clear b None is = (plain b is, tt)

-- no tab and no line feed is among escaped bytes
pub escaped_clear : (bytes : List ℕ) → IsClear (escaped bytes)
unfolding escaped
escaped_clear [] = tt
escaped_clear (b ∷ bytes) = each-append IsPlain (escape b) (flat_map escape bytes) (escape_clear b (letter_of b) refl) (escaped_clear bytes)

-- the text is neither `\N` nor `\#`
abbrev pub IsUnmarked : List ℕ → Type 0
IsUnmarked (a ∷ b ∷ []) = a ≡ 92 → (b ≢ 78) × (b ≢ 35)
IsUnmarked text = Unit {0}

unmarked_step : (b : ℕ) (o : Option ℕ) (rest : List ℕ) → letter_of b ≡ o → IsUnmarked (escape_by b o ++ rest)
unmarked_step b (Some l) [] is = λ e. no_mark b l is
unmarked_step b (Some l) (x ∷ rest) is = tt
unmarked_step b None [] is = tt
unmarked_step b None (x ∷ []) is = λ e. absurd (grind (arith, no_letter b is))
unmarked_step b None (x ∷ y ∷ rest) is = tt

pub escaped_unmarked : (bytes : List ℕ) → IsUnmarked (escaped bytes)
unfolding escaped
escaped_unmarked [] = tt
escaped_unmarked (b ∷ bytes) = unmarked_step b (letter_of b) (flat_map escape bytes) refl

-- nor is one of which no byte is a backslash
pub free_is_unmarked : (text : List ℕ) → AllFree text → IsUnmarked text
free_is_unmarked [] h = tt
free_is_unmarked (a ∷ []) h = tt
free_is_unmarked (a ∷ b ∷ []) h = λ e. absurd (h.0.no_backslash e)
free_is_unmarked (a ∷ b ∷ c ∷ text) h = tt
