-- What the chunks of a whole value are.
use Rattle.std.proofs.Common.{◌≡◌, ℕ, zero, suc, ◌+◌, ◌-◌, ◌*◌, ◌<◌, ◌≤◌, Bool, true, false, List, [], ◌∷◌, ◌++◌, refl, ap, sym, ◌∙◌, inl, inr, arith}
use Rattle.std.specs.Prelude.{pos, ◌==◌, ◌&&◌, nat_lt, count_by, Option, Some, None}
use Rattle.std.specs.List.{sum_by}
use Rattle.std.proofs.lemmas.Bool.{cases_Bool, cases_eq, eqb-true, ltb-false}
use Rattle.std.proofs.lemmas.List.Sums.{sum_by-append, sum_by-cons, sum_by_push}
use Rattle.varlena_attrs.specs.declared.places.ToastPointer.{ToastPointer}
use Rattle.toast_chunks.specs.declared.map.Chunk.{Chunk}
use Rattle.toast_chunks.specs.Chunks.{IsWhole, has_size, is_fit, is_numbered, is_of}
use Rattle.toast_chunks.specs.Pointer.{chunk_count, chunk_size, stored_size}
use Rattle.toast_chunks.proofs.Counts.{below, below-le, fit-le-numbered, le-below, numbered-le-of, one}
use Rattle.toast_chunks.proofs.Finding.{numbered_once}

below-more : (f : ℕ → ℕ) (m n : ℕ) → m ≤ n → below f m ≤ below f n
below-more f m zero le = let e : m ≡ 0 = omega arith in rw e (omega arith)
below-more f m (suc n) le =
    elim (cases_eq m (suc n)) [ inl same ↦ rw same (omega arith) | inr other ↦ omega (arith, below-more f m n (omega arith)) ]

-- the chunks of two lists with one between them
pub count-parts : (p : Chunk → Bool) (xs : List Chunk) (c : Chunk) (ys : List Chunk) → count_by p (xs ++ c ∷ [] ++ ys) ≡ count_by p xs + one (p c) + count_by p ys
count-parts p xs c ys = omega (arith, sum_by-append (λ d. one (p d)) (xs ++ c ∷ []) ys, sum_by_push (λ d. one (p d)) xs c)

pub count-push : (p : Chunk → Bool) (xs : List Chunk) (c : Chunk) → count_by p (xs ++ c ∷ []) ≡ count_by p xs + one (p c)
count-push p xs c = sum_by_push (λ d. one (p d)) xs c

pub sum-pair : (f g h : Chunk → ℕ) → ((c : Chunk) → f c + g c ≤ h c) → (xs : List Chunk) → sum_by f xs + sum_by g xs ≤ sum_by h xs
sum-pair f g h le [] = omega arith
sum-pair f g h le (c ∷ cs) =
    omega (arith, le c, sum_by-cons f c cs, sum_by-cons g c cs, sum_by-cons h c cs, sum-pair f g h le cs)

-- a chunk has one size at most
sized_once : (a b : ℕ) → (a ≡ b → ⊥) → (numbered : Bool) (o : Option ℕ) → one (numbered && has_size o a) + one (numbered && has_size o b) ≤ one numbered
sized_once a b differ false o = omega arith
sized_once a b differ true None = omega arith
sized_once a b differ true (Some z) = go (z == a) (z == b) refl refl
  where
    go : (s t : Bool) → (z == a) ≡ s → (z == b) ≡ t → one s + one t ≤ 1
    go true true e e' = absurd (differ (sym (eqb-true z a e) ∙ eqb-true z b e'))
    go true false e e' = omega arith
    go false true e e' = omega arith
    go false false e e' = omega arith

-- a number that there is is one of those that there should be
pub whole_below : (chunks : List Chunk) (p : ToastPointer) (k : ℕ) → IsWhole chunks p → 1 ≤ count_by (is_numbered p.value_id (pos k)) chunks → k < chunk_count (stored_size p)
whole_below chunks p k w some =
    let n = chunk_count (stored_size p) in
    let f : ℕ → ℕ = λ j. count_by (is_numbered p.value_id (pos j)) chunks in
    elim (cases_Bool (nat_lt k n)) [
      | inl e ↦ grind (arith, e)
      | inr e ↦
          let past : n ≤ k = ltb-false k n e in
          let each : n ≤ below f n = le-below f n (λ j lt. omega (arith, w.each j lt, fit-le-numbered p.value_id j (chunk_size (stored_size p) j) chunks)) in
          absurd (omega (arith, each, below-more f n k past, numbered-le-of p.value_id chunks (suc k), w.count, some))
    ]

-- a chunk that there is has the size that it should have
pub whole_sized : (chunks : List Chunk) (p : ToastPointer) (k size : ℕ) → IsWhole chunks p → k < chunk_count (stored_size p) → 1 ≤ count_by (is_fit p.value_id k size) chunks → size ≡ chunk_size (stored_size p) k
whole_sized chunks p k size w lt some =
    let due = chunk_size (stored_size p) k in
    elim (cases_eq size due) [
      | inl same ↦ same
      | inr other ↦
          absurd (omega (arith, some, w.each k lt, numbered_once chunks p w k lt, sum-pair (λ c. one (is_fit p.value_id k size c)) (λ c. one (is_fit p.value_id k due c)) (λ c. one (is_numbered p.value_id (pos k) c)) (λ c. sized_once size due other (is_numbered p.value_id (pos k) c) c.size) chunks))
    ]

-- each of the chunks is one that there should be
pub none_stray : (xs : List Chunk) (c : Chunk) (ys : List Chunk) (p : ToastPointer) → is_of p.value_id c ≡ true → ((k : ℕ) → is_fit p.value_id k (chunk_size (stored_size p) k) c ≡ false) → IsWhole (xs ++ c ∷ [] ++ ys) p → ⊥
none_stray xs c ys p of unfit w =
    let n = chunk_count (stored_size p) in
    let size : ℕ → ℕ = chunk_size (stored_size p) in
    let f : ℕ → ℕ = λ k. count_by (is_fit p.value_id k (size k)) (xs ++ ys) in
    let g : ℕ → ℕ = λ k. count_by (is_numbered p.value_id (pos k)) (xs ++ ys) in
    let none : (k : ℕ) → one (is_fit p.value_id k (size k) c) ≡ 0 = λ k. ap one (unfit k) in
    let here : one (is_of p.value_id c) ≡ 1 = ap one of in
    let each : n ≤ below f n = le-below f n (λ k lt. omega (arith, w.each k lt, none k, count-parts (is_fit p.value_id k (size k)) xs c ys, sum_by-append (λ d. one (is_fit p.value_id k (size k) d)) xs ys)) in
    absurd (omega (arith, each, here, w.count, below-le f g (λ k. fit-le-numbered p.value_id k (size k) (xs ++ ys)) n, numbered-le-of p.value_id (xs ++ ys) n, sum_by-append (λ d. one (is_of p.value_id d)) xs ys, count-parts (is_of p.value_id) xs c ys))

-- all chunks but the last are full
pub size_before_last : (stored k : ℕ) → k + 1 < chunk_count stored → chunk_size stored k ≡ 1996
unfolding chunk_count chunk_size
size_before_last stored k lt = let most : 1996 ≤ stored - 1996 * k = omega arith in grind (arith, most)

pub count_zero : (stored : ℕ) → stored ≡ 0 → chunk_count stored ≡ 0
unfolding chunk_count
count_zero stored e = omega (arith, e)

pub zero_from : (stored : ℕ) → chunk_count stored ≡ 0 → stored ≡ 0
unfolding chunk_count
zero_from stored e = omega (arith, e)
