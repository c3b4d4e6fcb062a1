-- The values of a word, one after the other.
use Rattle.std.proofs.Common.{◌≡◌, ◌≢◌, ◌<◌, inl, inr, ℕ, suc, zero, ◌+◌, ◌-◌, ◌^◌, Bool, true, false, cond, not, List, [], ◌∷◌, ◌++◌, append_assoc, drop, length, map, refl, sym, ap, ◌∙◌, arith}
use Rattle.std.specs.Prelude.{◌&&◌, ◌==◌, is_some, None, Option, Some, codes, slice_index, unwrap_or, ℤ, pos, negsuc}
use Rattle.std.specs.Option.{option_map, option_or}
use Rattle.std.specs.Str.{bytes_eq}
use Rattle.std.proofs.lemmas.Bool.{and_from, and_left, and_right, cases_Bool, cond-false, cond-true, eq-eqb, ne_eqb}
use Rattle.std.proofs.lemmas.Slice.Eq.{bytes_eq-Decides}
use Rattle.laws_search.specs.Keys.{Bound}
use Rattle.hex.specs.Hex.{decode_of}
use Rattle.key_orders.specs.declared.columns.Value.TheVariants.{Bytes, Int}
use Rattle.std.proofs.lemmas.Fmt.{decimal_nonempty}
use Rattle.std.proofs.lemmas.List.{drop_all}
use Rattle.cmd_line.specs.Numbers.{Writes, number_written}
use Rattle.cmd_line.specs.Read.{value_told}
use Rattle.cmd_line.specs.declared.bounds.ToldValue.{ToldValue}
use Rattle.cmd_line.proofs.NumberLaws.{none_written}
use Rattle.std.specs.List.{after_first, before_first, list_all, onto_first, position_or_len, slice_split}
use Rattle.std.proofs.lemmas.List.Splits.{slice_split_first}
use Rattle.key_orders.specs.declared.columns.Value.{Value}
use Rattle.cmd_line.specs.Bounds.{are_pairs, are_values, below_zero, bound_in, bound_of, bound_written, bytes_or_none, inclusion_of, integer_written, no_bound, octets_written, parts_by, parts_of, parts_written, value_in, value_written, values_in}
use Rattle.cmd_line.specs.declared.bounds.Side.{Side}
use Rattle.cmd_line.specs.declared.bounds.Side.TheVariants.{High, Low}

-- a word without a comma is one part
lone_by : (t : Bool) (p : ℕ → Bool) (x : ℕ) (xs : List ℕ) → (position_or_len p xs ≡ length xs → slice_split p xs ≡ xs ∷ []) → cond (not t) (1 + position_or_len p xs) 0 ≡ suc (length xs) → cond t ([] ∷ slice_split p xs) (onto_first x (slice_split p xs)) ≡ (x ∷ xs) ∷ []
lone_by true p x xs ih h = absurd (omega (arith, h))
lone_by false p x xs ih h = let same : position_or_len p xs ≡ length xs = omega (arith, h) in ap (onto_first x) (ih same)

lone : (p : ℕ → Bool) (xs : List ℕ) → position_or_len p xs ≡ length xs → slice_split p xs ≡ xs ∷ []
lone p [] e = refl
lone p (x ∷ xs) e = lone_by (p x) p x xs (λ h. lone p xs h) e

pub last-part : (word : List ℕ) → position_or_len (λ b. b == 44) word ≡ length word → parts_of word ≡ word ∷ []
last-part word e = lone (λ b. b == 44) word e

pub first-part : (word : List ℕ) → position_or_len (λ b. b == 44) word < length word → parts_of word ≡ before_first (λ b. b == 44) word ∷ parts_of (after_first (λ b. b == 44) word)
first-part word less = slice_split_first (λ b. b == 44) word 0 less

-- whether they are values
pub all-last : (word : List ℕ) → position_or_len (λ b. b == 44) word ≡ length word → are_values word ≡ is_some (value_written word)
unfolding are_values
all-last word e = ap (list_all (λ part. is_some (value_written part))) (last-part word e) ∙ and_true (is_some (value_written word))
  where
    and_true : (b : Bool) → (b && true) ≡ b
    and_true true = refl
    and_true false = refl

pub all-first : (word : List ℕ) → position_or_len (λ b. b == 44) word < length word → are_values word ≡ (is_some (value_written (before_first (λ b. b == 44) word)) && are_values (after_first (λ b. b == 44) word))
unfolding are_values
all-first word less = ap (list_all (λ part. is_some (value_written part))) (first-part word less)

-- and which
pub in-last : (word : List ℕ) → position_or_len (λ b. b == 44) word ≡ length word → values_in word ≡ value_in word ∷ []
unfolding values_in
in-last word e = ap (map value_in) (last-part word e)

pub in-first : (word : List ℕ) → position_or_len (λ b. b == 44) word < length word → values_in word ≡ value_in (before_first (λ b. b == 44) word) ∷ values_in (after_first (λ b. b == 44) word)
unfolding values_in
in-first word less = ap (map value_in) (first-part word less)

-- NUMBERS AND BYTES

-- the first byte of a word
head_is : (c : ℕ) (word rest : List ℕ) → word ≡ c ∷ rest → (slice_index word 0 == c) ≡ true
head_is c word rest is = eq-eqb (slice_index word 0) c (ap (λ (w : List ℕ). slice_index w 0) is)

tail_is : (c : ℕ) (word rest : List ℕ) → word ≡ c ∷ rest → drop 1 word ≡ rest
tail_is c word rest is = ap (drop 1) is

head_other : (c : ℕ) (word : List ℕ) → 0 < c → ((rest : List ℕ) → word ≢ c ∷ rest) → (slice_index word 0 == c) ≡ false
head_other c [] some other = ne_eqb 0 c (λ e. omega (arith, e, some))
head_other c (d ∷ ds) some other = ne_eqb d c (λ e. other ds (ap (λ (k : ℕ). k ∷ ds) e))

pub minus-first : (word digits : List ℕ) → word ≡ 45 ∷ digits → integer_written word ≡ below_zero (number_written (2 ^ 63 + 1) digits)
unfolding integer_written
minus-first word digits is = cond-true (slice_index word 0 == 45) _ _ (head_is 45 word digits is) ∙ ap (λ (w : List ℕ). below_zero (number_written (2 ^ 63 + 1) w)) (tail_is 45 word digits is)

pub no-minus : (word : List ℕ) → ((rest : List ℕ) → word ≢ 45 ∷ rest) → integer_written word ≡ option_map pos (number_written (2 ^ 63) word)
unfolding integer_written
no-minus word other = cond-false (slice_index word 0 == 45) _ _ (head_other 45 word (omega arith) other)

pub octets-none : (word : List ℕ) → ((rest : List ℕ) → word ≢ 120 ∷ rest) → octets_written word ≡ None
unfolding octets_written
octets-none word other = cond-false ((slice_index word 0 == 120) && are_pairs (drop 1 word)) _ _ (and_left (slice_index word 0 == 120) _ (head_other 120 word (omega arith) other))

pub octets-some : (word digits : List ℕ) → word ≡ 120 ∷ digits → are_pairs digits ≡ true → octets_written word ≡ Some (bytes_or_none (decode_of digits))
unfolding octets_written
octets-some word digits is pairs =
    cond-true ((slice_index word 0 == 120) && are_pairs (drop 1 word)) _ _ (and_from (slice_index word 0 == 120) _ (head_is 120 word digits is) (ap are_pairs (tail_is 120 word digits is) ∙ pairs))
    ∙ ap (λ (w : List ℕ). Some (bytes_or_none (decode_of w))) (tail_is 120 word digits is)

pub octets-odd : (word digits : List ℕ) → word ≡ 120 ∷ digits → are_pairs digits ≡ false → octets_written word ≡ None
unfolding octets_written
octets-odd word digits is odd =
    cond-false ((slice_index word 0 == 120) && are_pairs (drop 1 word)) _ _ (and_right (slice_index word 0 == 120) _ (ap are_pairs (tail_is 120 word digits is) ∙ odd))

-- a word that writes nothing else
pub value-else : (word : List ℕ) → bytes_eq word (codes "null") ≡ false → bytes_eq word (codes "false") ≡ false → bytes_eq word (codes "true") ≡ false → integer_written word ≡ None → value_written word ≡ option_map Bytes (octets_written word)
unfolding value_written
value-else word a b c none =
    cond-false (bytes_eq word (codes "null")) _ _ a ∙ (cond-false (bytes_eq word (codes "false")) _ _ b ∙ (cond-false (bytes_eq word (codes "true")) _ _ c
    ∙ ap (λ (o : Option ℤ). option_or (option_map Int o) (option_map Bytes (octets_written word))) none))

-- a number below zero
pub below-is : (n : ℕ) → n ≢ 0 → below_zero (Some n) ≡ Some (negsuc (n - 1))
below-is zero some = absurd (some refl)
below-is (suc m) some = ap (λ (k : ℕ). Some (negsuc k)) (omega arith)

-- a minus alone has no parts
pub dash-parts : (side : Side) (word : List ℕ) → word ≡ codes "-" → parts_written side word ≡ None
unfolding parts_written inclusion_of
dash-parts Low word is = ap (λ (w : List ℕ). parts_by (inclusion_of Low (before_first (λ b. b == 58) w)) (after_first (λ b. b == 58) w)) is
dash-parts High word is = ap (λ (w : List ℕ). parts_by (inclusion_of High (before_first (λ b. b == 58) w)) (after_first (λ b. b == 58) w)) is

none_some : {X : Type 0} (o : Option X) (x : X) → o ≡ None → o ≡ Some x → ⊥
none_some o x e f = cc

pub bound-some : (side : Side) (word : List ℕ) (parts : Bool × List ℕ) → parts_written side word ≡ Some parts → bound_in side word ≡ bound_of parts
unfolding bound_written
bound-some side word parts is = elim (cases_Bool (bytes_eq word (codes "-"))) [
  | inl dash ↦ absurd (none_some (parts_written side word) parts (dash-parts side word ((bytes_eq-Decides word (codes "-")).0 dash)) is)
  | inr other ↦ ap (λ (o : Option (Bound Value)). unwrap_or o no_bound) (cond-false (bytes_eq word (codes "-")) _ _ other ∙ ap (option_map bound_of) is)
]

pub bound-none : (side : Side) (word : List ℕ) → parts_written side word ≡ None → bound_in side word ≡ no_bound
unfolding bound_written
bound-none side word is = elim (cases_Bool (bytes_eq word (codes "-"))) [
  | inl dash ↦ ap (λ (o : Option (Bound Value)). unwrap_or o no_bound) (cond-true (bytes_eq word (codes "-")) _ _ dash)
  | inr other ↦ ap (λ (o : Option (Bound Value)). unwrap_or o no_bound) (cond-false (bytes_eq word (codes "-")) _ _ other ∙ ap (option_map bound_of) is)
]

-- nothing is no value
no_number : (n : ℕ) → Writes (2 ^ 63) [] n → ⊥
no_number n writes = omega (arith, decimal_nonempty n (omega (arith, writes.1)), ap length writes.0)

pub nothing-written : value_written [] ≡ None
nothing-written =
    value-else [] refl refl refl
    (no-minus [] (λ rest e. omega (arith, ap length e)) ∙ ap (option_map pos) (sym (none_written (2 ^ 63) (omega arith) [] no_number (number_written (2 ^ 63) []) refl)))
    ∙ ap (option_map Bytes) (octets-none [] (λ rest e. omega (arith, ap length e)))

-- PARTS

told_some : (o : Option ToldValue) → is_some (option_map value_told o) ≡ is_some o
told_some None = refl
told_some (Some value) = refl

pub part-refused : (word part : List ℕ) (o : Option ToldValue) → position_or_len (λ b. b == 44) word < length word → part ≡ before_first (λ b. b == 44) word → option_map value_told o ≡ value_written part → is_some o ≡ false → are_values word ≡ false
part-refused word part o less is told none =
    all-first word less
    ∙ and_left (is_some (value_written (before_first (λ b. b == 44) word))) _ (ap (λ (w : List ℕ). is_some (value_written w)) (sym is) ∙ ap is_some (sym told) ∙ told_some o ∙ none)

pub part-taken : (word part more : List ℕ) (o : Option ToldValue) → position_or_len (λ b. b == 44) word < length word → part ≡ before_first (λ b. b == 44) word → more ≡ after_first (λ b. b == 44) word → option_map value_told o ≡ value_written part → is_some o ≡ true → are_values word ≡ are_values more
part-taken word part more o less is after told some =
    all-first word less
    ∙ ap (λ (b : Bool). b && are_values (after_first (λ b. b == 44) word)) (ap (λ (w : List ℕ). is_some (value_written w)) (sym is) ∙ ap is_some (sym told) ∙ told_some o ∙ some)
    ∙ ap are_values (sym after)

pub part-last : (word : List ℕ) (o : Option ToldValue) → position_or_len (λ b. b == 44) word ≡ length word → option_map value_told o ≡ value_written word → are_values word ≡ is_some o
part-last word o none told = all-last word none ∙ ap is_some (sym told) ∙ told_some o

-- and of a bound
parts_by-no : (o : Option Bool) (word : List ℕ) → are_values word ≡ false → parts_by o word ≡ None
parts_by-no None word never = refl
parts_by-no (Some inclusive) word never = cond-false (are_values word) _ _ never

pub no-colon : (side : Side) (word : List ℕ) → position_or_len (λ b. b == 58) word ≡ length word → parts_written side word ≡ None
unfolding parts_written
no-colon side word none =
    parts_by-no (inclusion_of side (before_first (λ b. b == 58) word)) (after_first (λ b. b == 58) word)
    (ap are_values (ap (λ (n : ℕ). drop (n + 1) word) none ∙ drop_all (length word + 1) word (omega arith)) ∙ (all-last [] refl ∙ ap is_some nothing-written))

module _ (side : Side) (word name values : List ℕ) (name_is : name ≡ before_first (λ b. b == 58) word) where
  pub no-letters : inclusion_of side name ≡ None → parts_written side word ≡ None
  unfolding parts_written
  no-letters none = ap (λ (o : Option Bool). parts_by o (after_first (λ b. b == 58) word)) (ap (inclusion_of side) (sym name_is) ∙ none)

  module _ (inclusive : Bool) (values_is : values ≡ after_first (λ b. b == 58) word) (some : inclusion_of side name ≡ Some inclusive) where
    parts-of : parts_written side word ≡ parts_by (Some inclusive) values
    unfolding parts_written
    parts-of = ap (λ (o : Option Bool). parts_by o (after_first (λ b. b == 58) word)) (ap (inclusion_of side) (sym name_is) ∙ some) ∙ ap (parts_by (Some inclusive)) (sym values_is)

    pub no-values : are_values values ≡ false → parts_written side word ≡ None
    no-values never = parts-of ∙ parts_by-no (Some inclusive) values never

    pub with-values : are_values values ≡ true → parts_written side word ≡ Some (inclusive, values)
    with-values all = parts-of ∙ cond-true (are_values values) _ _ all

-- VALUES

pub pushed-first : (word part more : List ℕ) (items pushed : List Value) (v : Value) → position_or_len (λ b. b == 44) word < length word → part ≡ before_first (λ b. b == 44) word → more ≡ after_first (λ b. b == 44) word → v ≡ value_in part → pushed ≡ items ++ v ∷ [] → items ++ values_in word ≡ pushed ++ values_in more
pushed-first word part more items pushed v less is after value push =
    ap (λ (vs : List Value). items ++ vs) (in-first word less ∙ ap (λ (w : List ℕ). value_in w ∷ values_in (after_first (λ b. b == 44) word)) (sym is) ∙ ap (λ (w : List ℕ). value_in part ∷ values_in w) (sym after) ∙ ap (λ (x : Value). x ∷ values_in more) (sym value))
    ∙ sym (append_assoc items (v ∷ []) (values_in more))
    ∙ ap (λ (vs : List Value). vs ++ values_in more) (sym push)

pub pushed-last : (word : List ℕ) (items pushed : List Value) (v : Value) → position_or_len (λ b. b == 44) word ≡ length word → v ≡ value_in word → pushed ≡ items ++ v ∷ [] → items ++ values_in word ≡ pushed
pushed-last word items pushed v none value push = ap (λ (vs : List Value). items ++ vs) (in-last word none ∙ ap (λ (x : Value). x ∷ []) (sym value)) ∙ sym push

-- a bound that is read
pub read-none : (values : List Value) (side : Side) (word : List ℕ) → values ≡ [] → None ≡ parts_written side word → record { values = values; inclusive = true } ≡ bound_in side word
read-none values side word empty none = ap (λ (vs : List Value). record { values = vs; inclusive = true }) empty ∙ sym (bound-none side word (sym none))

pub read-some : (values : List Value) (side : Side) (word part : List ℕ) (inclusive : Bool) → values ≡ values_in part → Some (inclusive, part) ≡ parts_written side word → record { values = values; inclusive = inclusive } ≡ bound_in side word
read-some values side word part inclusive is some = ap (λ (vs : List Value). record { values = vs; inclusive = inclusive }) is ∙ sym (bound-some side word (inclusive, part) (sym some))
