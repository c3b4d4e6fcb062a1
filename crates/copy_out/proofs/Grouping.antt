-- Digits in groups are read back.
use Rattle.std.proofs.Common.{◌≡◌, ◌≢◌, ℕ, ◌+◌, true, List, [], ◌∷◌, ◌++◌, length, take, drop, refl, sym, ap, ◌∙◌, ◌≤◌, arith}
use Rattle.std.specs.List.{AllByRecursion, join_with_byte}
use Rattle.std.proofs.lemmas.Bool.{cond-true}
use Rattle.std.proofs.lemmas.List.{append_assoc, length-drop, take_all}
use Rattle.std.proofs.lemmas.List.Elements.{filter-append}
use Rattle.std.proofs.Math.Seq.{take-add}
use Rattle.hex.specs.Hex.{IsBytes, encode_lower, lower_digits}
use Rattle.hex.proofs.HexLemmas.{length-encode_with}
use Rattle.copy_out.specs.Fields.{grouped, groups, in_groups}
use Rattle.copy_out.specs.Readings.{bytes_read, is_no_hyphen, without_hyphens}
use Rattle.copy_out.proofs.Breaks.{AllFree, IsFree, each-drop, each-joined, each-take, each-weaker}
use Rattle.copy_out.proofs.HexDigits.{IsHexDigit, bytes_read-encode, encode_digits}

abbrev total : List ℕ → ℕ
total [] = 0
total (n ∷ ns) = n + total ns

without-append : (xs ys : List ℕ) → without_hyphens (xs ++ ys) ≡ without_hyphens xs ++ without_hyphens ys
without-append xs ys = filter-append is_no_hyphen xs ys

stays : (b : ℕ) → b ≢ 45 → is_no_hyphen b ≡ true
stays b h = grind arith

without_none : (ds : List ℕ) → AllByRecursion IsHexDigit ds → without_hyphens ds ≡ ds
without_none [] h = refl
without_none (d ∷ ds) h = cond-true _ _ _ (stays d h.0.no_hyphen) ∙ ap (λ (r : List ℕ). d ∷ r) (without_none ds h.1)

without_groups : (ns ds : List ℕ) → AllByRecursion IsHexDigit ds
    → without_hyphens (join_with_byte 45 (groups ns ds)) ≡ take (total ns) ds
without_groups [] ds h = refl
without_groups (n ∷ []) ds h =
    let same : n + 0 ≡ n = omega arith in
    rw same (without_none (take n ds) (each-take IsHexDigit n ds h))
without_groups (n ∷ m ∷ ns) ds h =
    without-append (take n ds) (45 ∷ join_with_byte 45 (groups (m ∷ ns) (drop n ds)))
    ∙ ap (λ (r : List ℕ). r ++ without_hyphens (join_with_byte 45 (groups (m ∷ ns) (drop n ds)))) (without_none (take n ds) (each-take IsHexDigit n ds h))
    ∙ ap (λ (r : List ℕ). take n ds ++ r) (without_groups (m ∷ ns) (drop n ds) (each-drop IsHexDigit n ds h))
    ∙ sym (take-add n (total (m ∷ ns)) ds)

groups_each : (P : ℕ → Type 0) (ns ds : List ℕ) → AllByRecursion P ds → AllByRecursion (AllByRecursion P) (groups ns ds)
groups_each P [] ds h = tt
groups_each P (n ∷ ns) ds h = (each-take P n ds h, groups_each P ns (drop n ds) (each-drop P n ds h))

pub grouped_free : (bytes : List ℕ) → AllFree (grouped bytes)
unfolding grouped in_groups
grouped_free bytes =
    each-joined IsFree 45 (record { no_tab = λ e. omega arith; no_line_feed = λ e. omega arith; no_backslash = λ e. omega arith })
    (groups (8 ∷ 4 ∷ 4 ∷ 4 ∷ 12 ∷ []) (encode_lower bytes))
    (groups_each IsFree (8 ∷ 4 ∷ 4 ∷ 4 ∷ 12 ∷ []) (encode_lower bytes) (each-weaker IsHexDigit IsFree (λ b d. d.free) (encode_lower bytes) (encode_digits bytes)))

pub grouped_read : (bytes : List ℕ) → IsBytes bytes → length bytes ≡ 16 → bytes_read (without_hyphens (grouped bytes)) ≡ bytes
unfolding grouped in_groups
grouped_read bytes h long =
    let len = length-encode_with lower_digits bytes in
    ap bytes_read (without_groups (8 ∷ 4 ∷ 4 ∷ 4 ∷ 12 ∷ []) (encode_lower bytes) (encode_digits bytes)
    ∙ take_all (total (8 ∷ 4 ∷ 4 ∷ 4 ∷ 12 ∷ [])) (encode_lower bytes) (omega (arith, len)))
    ∙ bytes_read-encode bytes h

regroup : (t a b c d e : List ℕ)
    → ((((t ++ (a ++ 45 ∷ [])) ++ (b ++ 45 ∷ [])) ++ (c ++ 45 ∷ [])) ++ (d ++ 45 ∷ [])) ++ e
    ≡ t ++ join_with_byte 45 (a ∷ b ∷ c ∷ d ∷ e ∷ [])
regroup t a b c d e = simp append_assoc

-- five pieces, in the order in which they are written
pub five_groups : (t ds : List ℕ) → length ds ≡ 32
    → ((((t ++ (take 8 ds ++ 45 ∷ [])) ++ (take 4 (drop 8 ds) ++ 45 ∷ [])) ++ (take 4 (drop 4 (drop 8 ds)) ++ 45 ∷ []))
    ++ (take 4 (drop 4 (drop 4 (drop 8 ds))) ++ 45 ∷ [])) ++ drop 4 (drop 4 (drop 4 (drop 8 ds)))
    ≡ t ++ in_groups ds
unfolding in_groups
five_groups t ds long =
    let last = drop 4 (drop 4 (drop 4 (drop 8 ds))) in
    let few : length last ≤ 12 = simp length-drop (omega arith) in
    regroup t (take 8 ds) (take 4 (drop 8 ds)) (take 4 (drop 4 (drop 8 ds))) (take 4 (drop 4 (drop 4 (drop 8 ds)))) last
    ∙ ap (λ (r : List ℕ). t ++ join_with_byte 45 (take 8 ds ∷ take 4 (drop 8 ds) ∷ take 4 (drop 4 (drop 8 ds)) ∷ take 4 (drop 4 (drop 4 (drop 8 ds))) ∷ r ∷ []))
    (sym (take_all 12 last few))

pub five_written : (t t1 t2 t3 t4 t5 ds a r b s c u d e : List ℕ) → length ds ≡ 32 → a ≡ take 8 ds → r ≡ drop 8 ds → b ≡ take 4 r → s ≡ drop 4 r
    → c ≡ take 4 s → u ≡ drop 4 s → d ≡ take 4 u → e ≡ drop 4 u → t1 ≡ t ++ (a ++ 45 ∷ []) → t2 ≡ t1 ++ (b ++ 45 ∷ [])
    → t3 ≡ t2 ++ (c ++ 45 ∷ []) → t4 ≡ t3 ++ (d ++ 45 ∷ []) → t5 ≡ t4 ++ e → t5 ≡ t ++ in_groups ds
five_written t t1 t2 t3 t4 t5 ds a r b s c u d e long e1 e2 e3 e4 e5 e6 e7 e8 w1 w2 w3 w4 w5 =
    let whole = five_groups t ds long in
    cc
