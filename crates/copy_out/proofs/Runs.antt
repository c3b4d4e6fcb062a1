-- What lies between two escapes.
use Rattle.std.proofs.Common.{◌≡◌, ◌⊎◌, inl, inr, zero, suc, refl, Option, ℕ, ◌+◌, ◌-◌, ◌<◌, ◌≤◌, List, [], ◌∷◌, ◌++◌, length, take, drop, get_or, Some, None, sym, ap, ◌∙◌, arith, append-nil, append_assoc, length-take}
use Rattle.std.specs.List.{flat_map}
use Rattle.std.proofs.lemmas.List.{drop-append-le, drop_all, drop-take, length-take-le, take_more}
use Rattle.std.proofs.lemmas.List.Concat.{flat_map-append}
use Rattle.copy_out.specs.Escapes.{escape, escape_by, escaped, letter_of}

-- one more byte is escaped
escaped_more : (bytes : List ℕ) (i : ℕ) → i < length bytes → escaped (take (i + 1) bytes) ≡ escaped (take i bytes) ++ escape (get_or bytes i 0)
unfolding escaped
escaped_more bytes i lt =
    ap (flat_map escape) (take_more bytes i 0 lt)
    ∙ flat_map-append escape (take i bytes) (get_or bytes i 0 ∷ [])
    ∙ ap (λ (r : List ℕ). flat_map escape (take i bytes) ++ r) (append-nil (escape (get_or bytes i 0)))

-- where no letter stands for it, it stays
pub stays_more : (bytes : List ℕ) (i : ℕ) → i < length bytes → letter_of (get_or bytes i 0) ≡ None → escaped (take i bytes) ≡ take i bytes
    → escaped (take (i + 1) bytes) ≡ take (i + 1) bytes
stays_more bytes i lt none stay =
    escaped_more bytes i lt ∙ ap (λ (r : List ℕ). r ++ escape (get_or bytes i 0)) stay
    ∙ ap (λ (r : List ℕ). take i bytes ++ r) (ap (escape_by (get_or bytes i 0)) none) ∙ sym (take_more bytes i 0 lt)

-- where it stands for none, all stay
pub stay_all : (bytes : List ℕ) → ((k : ℕ) → k < length bytes → letter_of (get_or bytes k 0) ≡ None) → escaped bytes ≡ bytes
unfolding escaped
stay_all [] none = refl
stay_all (b ∷ bytes) none =
    ap (λ (o : Option ℕ). escape_by b o ++ flat_map escape bytes) (none 0 (omega arith))
    ∙ ap (λ (r : List ℕ). b ∷ r) (stay_all bytes (λ k lt. none (suc k) (omega arith)))

below_or_not : (k n : ℕ) → (k < n) ⊎ (n ≤ k)
below_or_not k zero = inr (omega arith)
below_or_not zero (suc n) = inl (omega arith)
below_or_not (suc k) (suc n) = elim (below_or_not k n) [ inl h ↦ inl (omega (arith, h)) | inr h ↦ inr (omega (arith, h)) ]

-- none before a place and none in the 32 bytes from there on
pub none_before : (bytes : List ℕ) (at : ℕ) → ((k : ℕ) → k < at → letter_of (get_or bytes k 0) ≡ None)
    → ((k : ℕ) → at ≤ k → k < at + 32 → letter_of (get_or bytes k 0) ≡ None) → (k : ℕ) → k < at + 32 → letter_of (get_or bytes k 0) ≡ None
none_before bytes at before here k lt = elim (below_or_not k at) [ inl h ↦ before k h | inr h ↦ here k h lt ]

-- the last 32 bytes are the end
pub none_in_all : (bytes : List ℕ) (at last : ℕ) → last ≤ at → length bytes ≡ last + 32 → ((k : ℕ) → k < at → letter_of (get_or bytes k 0) ≡ None)
    → ((k : ℕ) → last ≤ k → k < last + 32 → letter_of (get_or bytes k 0) ≡ None) → escaped bytes ≡ bytes
none_in_all bytes at last le long before here =
    stay_all bytes (λ k lt. none_before bytes last (λ j lj. before j (omega (arith, lj, le))) here k (omega (arith, lt, long)))

-- one more byte waits
run_more : (bytes : List ℕ) (done i : ℕ) → i < length bytes → done ≤ i → drop done (take (i + 1) bytes) ≡ drop done (take i bytes) ++ get_or bytes i 0 ∷ []
run_more bytes done i lt le =
    ap (drop done) (take_more bytes i 0 lt)
    ∙ drop-append-le done (take i bytes) (get_or bytes i 0 ∷ []) (omega (arith, length-take-le i bytes (omega arith)))

-- what waits, as the code reads it
pub run_is : (bytes : List ℕ) (done i : ℕ) → done ≤ i → take (i - done) (drop done bytes) ≡ drop done (take i bytes)
run_is bytes done i le =
    let e : done + (i - done) ≡ i = omega arith in
    sym (drop-take done (i - done) bytes) ∙ ap (λ (n : ℕ). drop done (take n bytes)) e

-- a byte without a letter waits
pub waits : (bytes text first : List ℕ) (done i : ℕ) → i < length bytes → done ≤ i → letter_of (get_or bytes i 0) ≡ None
    → text ++ drop done (take i bytes) ≡ first ++ escaped (take i bytes)
    → text ++ drop done (take (i + 1) bytes) ≡ first ++ escaped (take (i + 1) bytes)
waits bytes text first done i lt le none told =
    ap (λ (r : List ℕ). text ++ r) (run_more bytes done i lt le)
    ∙ sym (append_assoc text (drop done (take i bytes)) (get_or bytes i 0 ∷ []))
    ∙ ap (λ (r : List ℕ). r ++ get_or bytes i 0 ∷ []) told
    ∙ append_assoc first (escaped (take i bytes)) (get_or bytes i 0 ∷ [])
    ∙ ap (λ (r : List ℕ). first ++ (escaped (take i bytes) ++ r)) (sym (ap (escape_by (get_or bytes i 0)) none))
    ∙ ap (λ (r : List ℕ). first ++ r) (sym (escaped_more bytes i lt))

-- what waits is written, and then the escape
pub written : (bytes text first : List ℕ) (done i letter : ℕ) → i < length bytes → done ≤ i → letter_of (get_or bytes i 0) ≡ Some letter
    → text ++ drop done (take i bytes) ≡ first ++ escaped (take i bytes)
    → ((text ++ drop done (take i bytes)) ++ 92 ∷ letter ∷ []) ++ drop (i + 1) (take (i + 1) bytes) ≡ first ++ escaped (take (i + 1) bytes)
written bytes text first done i letter lt le some told =
    ap (λ (r : List ℕ). ((text ++ drop done (take i bytes)) ++ 92 ∷ letter ∷ []) ++ r) (drop_all (i + 1) (take (i + 1) bytes) (omega (arith, length-take (i + 1) bytes)))
    ∙ append-nil ((text ++ drop done (take i bytes)) ++ 92 ∷ letter ∷ [])
    ∙ ap (λ (r : List ℕ). r ++ 92 ∷ letter ∷ []) told
    ∙ append_assoc first (escaped (take i bytes)) (92 ∷ letter ∷ [])
    ∙ ap (λ (r : List ℕ). first ++ (escaped (take i bytes) ++ r)) (sym (ap (escape_by (get_or bytes i 0)) some))
    ∙ ap (λ (r : List ℕ). first ++ r) (sym (escaped_more bytes i lt))
