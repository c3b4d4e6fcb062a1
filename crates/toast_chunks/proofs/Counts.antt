-- Counting the chunks of a value by their numbers.
use Rattle.std.proofs.Common.{◌≡◌, ℕ, zero, suc, ◌+◌, ◌<◌, ◌≤◌, Bool, true, false, cond, List, [], ◌∷◌, length, get_or, refl, ap, ◌∙◌, inl, inr, arith}
use Rattle.std.specs.Prelude.{ℤ, pos, negsuc, ◌==◌, ◌&&◌, nat_lt, count_by}
use Rattle.std.specs.List.{remove}
use Rattle.std.specs.Ordering.{int_eq}
use Rattle.std.proofs.lemmas.Bool.Decides.{Decides-int_eq, nat_tests}
use Rattle.std.proofs.lemmas.Bool.{and_right, cases_eq, eq-eqb}
use Rattle.std.proofs.lemmas.List.Sums.{sum_by-cons, sum_by-le-sum_by, sum_by-remove}
use Rattle.toast_chunks.specs.declared.map.Chunk.{Chunk}
use Rattle.toast_chunks.specs.Chunks.{has_size, is_fit, is_numbered, is_of}

-- a test as a number
abbrev pub one : Bool → ℕ
one b = cond b 1 0

-- the sum of f below n
abbrev pub below : (ℕ → ℕ) → ℕ → ℕ
below f zero = 0
below f (suc n) = f n + below f n

pub below-zero : (f : ℕ → ℕ) → ((k : ℕ) → f k ≡ 0) → (n : ℕ) → below f n ≡ 0
below-zero f h zero = refl
below-zero f h (suc n) = omega (arith, h n, below-zero f h n)

pub below-add : (f g h : ℕ → ℕ) → ((k : ℕ) → f k ≡ g k + h k) → (n : ℕ) → below f n ≡ below g n + below h n
below-add f g h e zero = refl
below-add f g h e (suc n) = omega (arith, e n, below-add f g h e n)

pub below-le : (f g : ℕ → ℕ) → ((k : ℕ) → f k ≤ g k) → (n : ℕ) → below f n ≤ below g n
below-le f g h zero = omega arith
below-le f g h (suc n) = omega (arith, h n, below-le f g h n)

pub le-below : (f : ℕ → ℕ) (n : ℕ) → ((k : ℕ) → k < n → 1 ≤ f k) → n ≤ below f n
le-below f zero h = omega arith
le-below f (suc n) h = omega (arith, h n (omega arith), le-below f n (λ k lt. h k (omega arith)))

-- numbers of which each is at least 1, and which sum to no more than their count, are 1
pub each_is_one : (f : ℕ → ℕ) (n : ℕ) → ((k : ℕ) → k < n → 1 ≤ f k) → below f n ≤ n → (k : ℕ) → k < n → f k ≡ 1
each_is_one f zero h le k lt = absurd (omega arith)
each_is_one f (suc n) h le k lt =
    let rest : n ≤ below f n = le-below f n (λ j lt'. h j (omega arith)) in
    let last : 1 ≤ f n = h n (omega arith) in
    elim (cases_eq k n) [
      | inl same ↦ rw same (omega arith)
      | inr other ↦ each_is_one f n (λ j lt'. h j (omega arith)) (omega arith) k (omega arith)
    ]

-- a number below n is one of those below n, once
pub one-below : (m n : ℕ) → below (λ k. one (m == k)) n ≡ one (nat_lt m n)
one-below m zero = grind (arith, nat_tests)
one-below m (suc n) = grind (arith, nat_tests, one-below m n)

pub int_eq-same : (x y : ℤ) → x ≡ y → int_eq x y ≡ true
int_eq-same x y e = (Decides-int_eq x y).1 e

-- at most one number below n is that of a chunk
one-numbered : (seq : ℤ) (n : ℕ) → below (λ k. one (int_eq seq (pos k))) n ≤ 1
one-numbered (pos m) n =
    omega (arith, below-le (λ k. one (int_eq (pos m) (pos k))) (λ k. one (m == k)) (λ k. at k) n, one-below m n, small (nat_lt m n))
  where
    at : (k : ℕ) → one (int_eq (pos m) (pos k)) ≤ one (m == k)
    at k = go (int_eq (pos m) (pos k)) refl
      where
        inner : (x y : ℕ) → ◌≡◌ {A = ℤ} (pos x) (pos y) → x ≡ y
        inner x y e = cc

        go : (b : Bool) → int_eq (pos m) (pos k) ≡ b → one b ≤ one (m == k)
        go true e = let same : (m == k) ≡ true = eq-eqb m k (inner m k ((Decides-int_eq (pos m) (pos k)).0 e)) in rw same (omega arith)
        go false e = omega arith

    small : (b : Bool) → one b ≤ 1
    small true = omega arith
    small false = omega arith
one-numbered (negsuc m) n = omega (arith, below-zero (λ k. one (int_eq (negsuc m) (pos k))) (λ k. at k) n)
  where
    at : (k : ℕ) → one (int_eq (negsuc m) (pos k)) ≡ 0
    at k = go (int_eq (negsuc m) (pos k)) refl
      where
        differ : ◌≡◌ {A = ℤ} (negsuc m) (pos k) → ⊥
        differ e = cc

        go : (b : Bool) → int_eq (negsuc m) (pos k) ≡ b → one b ≡ 0
        go true e = absurd (differ ((Decides-int_eq (negsuc m) (pos k)).0 e))
        go false e = refl

-- a chunk counts for at most one number of its value, and for none of another
one-of : (id : ℕ) (c : Chunk) (n : ℕ) → below (λ k. one (is_numbered id (pos k) c)) n ≤ one (is_of id c)
one-of id c n = go (is_of id c) refl
  where
    go : (b : Bool) → is_of id c ≡ b → below (λ k. one (b && int_eq c.seq (pos k))) n ≤ one b
    go true e = one-numbered c.seq n
    go false e = omega (arith, below-zero (λ k. one (false && int_eq c.seq (pos k))) (λ k. refl) n)

-- the chunks of the numbers below n are some of the value's chunks
pub numbered-le-of : (id : ℕ) (chunks : List Chunk) (n : ℕ) → below (λ k. count_by (is_numbered id (pos k)) chunks) n ≤ count_by (is_of id) chunks
numbered-le-of id [] n = omega (arith, below-zero (λ k. 0) (λ k. refl) n)
numbered-le-of id (c ∷ cs) n =
    let split = below-add (λ k. count_by (is_numbered id (pos k)) (c ∷ cs)) (λ k. one (is_numbered id (pos k) c)) (λ k. count_by (is_numbered id (pos k)) cs) (λ k. sum_by-cons _ c cs) n in
    omega (arith, split, one-of id c n, numbered-le-of id cs n, sum_by-cons (λ d. one (is_of id d)) c cs)

fit_is_numbered : (id k size : ℕ) (c : Chunk) → one (is_fit id k size c) ≤ one (is_numbered id (pos k) c)
fit_is_numbered id k size c = go (is_numbered id (pos k) c) (has_size c.size size)
  where
    go : (a b : Bool) → one (a && b) ≤ one a
    go true true = omega arith
    go true false = omega arith
    go false b = omega arith

pub fit-le-numbered : (id k size : ℕ) (chunks : List Chunk) → count_by (is_fit id k size) chunks ≤ count_by (is_numbered id (pos k)) chunks
fit-le-numbered id k size chunks = sum_by-le-sum_by (λ c. one (is_fit id k size c)) (λ c. one (is_numbered id (pos k) c)) chunks (fit_is_numbered id k size)

-- a chunk of this number that doesn't fit is one more
pub unfit-lt-numbered : (id k size : ℕ) (chunks : List Chunk) (i : ℕ) (c : Chunk) → i < length chunks → get_or chunks i c ≡ c → is_numbered id (pos k) c ≡ true → has_size c.size size ≡ false → count_by (is_fit id k size) chunks + 1 ≤ count_by (is_numbered id (pos k)) chunks
unfit-lt-numbered id k size chunks i c lt at numbered unfit =
    let fit : Chunk → ℕ = λ d. one (is_fit id k size d) in
    let num : Chunk → ℕ = λ d. one (is_numbered id (pos k) d) in
    let none : fit (get_or chunks i c) ≡ 0 = ap fit at ∙ ap one (and_right (is_numbered id (pos k) c) _ unfit) in
    let some : num (get_or chunks i c) ≡ 1 = ap num at ∙ ap one numbered in
    omega (arith, sum_by-remove fit chunks i c lt, sum_by-remove num chunks i c lt, none, some, sum_by-le-sum_by fit num (remove chunks i) (fit_is_numbered id k size))
