-- One more chunk of a value that fits, and whether it is whole.
use Rattle.std.proofs.Common.{◌≡◌, ℕ, zero, suc, ◌+◌, ◌<◌, ◌≤◌, Bool, true, false, List, [], ◌∷◌, refl, ap, sym, ◌∙◌, inl, inr, arith}
use Rattle.std.specs.Prelude.{ℤ, pos, negsuc, ◌==◌, ◌&&◌, nat_lt, count_by}
use Rattle.std.specs.Ordering.{int_eq}
use Rattle.std.proofs.lemmas.Bool.{and_right, cases_Bool, cases_eq, eq-eqb, eqb-true, false≢true}
use Rattle.std.proofs.lemmas.Bool.Decides.{Decides-int_eq}
use Rattle.std.proofs.lemmas.List.{append-nil}
use Rattle.std.proofs.lemmas.List.Sums.{sum_by-cons}
use Rattle.varlena_attrs.specs.declared.places.ToastPointer.{ToastPointer}
use Rattle.toast_chunks.specs.declared.map.Chunk.{Chunk}
use Rattle.toast_chunks.specs.Chunks.{IsWhole, has_size, is_fit, is_numbered, is_of, is_whole}
use Rattle.toast_chunks.specs.Pointer.{chunk_count, chunk_size, stored_size}
use Rattle.toast_chunks.specs.ValueChunks.{IsFit, IsNeverWhole, is_below, is_full_below}
use Rattle.toast_chunks.proofs.Counts.{below, below-add, below-zero, fit-le-numbered, int_eq-same, one, one-below}
use Rattle.toast_chunks.proofs.Finding.{is_whole-false, is_whole-from}
use Rattle.toast_chunks.proofs.Wholes.{count_zero, size_before_last, whole_below, whole_sized, zero_from}

pos_parts : (x y : ℕ) → ◌≡◌ {A = ℤ} (pos x) (pos y) → x ≡ y
pos_parts x y e = cc

pub int_eq-differ : (x y : ℤ) → (x ≡ y → ⊥) → int_eq x y ≡ false
int_eq-differ x y h = elim (cases_Bool (int_eq x y)) [ inl e ↦ absurd (h ((Decides-int_eq x y).0 e)) | inr e ↦ e ]

pub pos-differ : (x y : ℕ) → (x ≡ y → ⊥) → int_eq (pos x) (pos y) ≡ false
pos-differ x y h = int_eq-differ (pos x) (pos y) (λ e. h (pos_parts x y e))

int_eq-pos : (x y : ℕ) → int_eq (pos x) (pos y) ≡ (x == y)
int_eq-pos x y = go (x == y) refl
  where
    go : (b : Bool) → (x == y) ≡ b → int_eq (pos x) (pos y) ≡ b
    go true e = int_eq-same (pos x) (pos y) (ap pos (eqb-true x y e))
    go false e = pos-differ x y (λ same. absurd (grind (arith, e, same)))

below-eq : (f g : ℕ → ℕ) → ((k : ℕ) → f k ≡ g k) → (n : ℕ) → below f n ≡ below g n
below-eq f g e zero = refl
below-eq f g e (suc n) = omega (arith, e n, below-eq f g e n)

below-most : (f : ℕ → ℕ) → ((k : ℕ) → f k ≤ 1) → (n : ℕ) → below f n ≤ n
below-most f most zero = omega arith
below-most f most (suc n) = omega (arith, most n, below-most f most n)

-- numbers of which each is at most 1, and which sum to no less than their count, are 1
each_is_one : (f : ℕ → ℕ) (n : ℕ) → ((k : ℕ) → f k ≤ 1) → n ≤ below f n → (k : ℕ) → k < n → f k ≡ 1
each_is_one f zero most le k lt = absurd (omega arith)
each_is_one f (suc n) most le k lt =
    let rest = below-most f most n in
    let last = most n in
    elim (cases_eq k n) [
      | inl same ↦ rw same (omega (arith, rest, last, le))
      | inr other ↦ each_is_one f n most (omega (arith, rest, last, le)) k (omega arith)
    ]

-- a full chunk is that of one number below n, where its number is there
full_at : (a h : Bool) (z : ℤ) (n : ℕ) → one (a && is_below z n && h) ≡ below (λ k. one (a && int_eq z (pos k) && h)) n
full_at false h z n = sym (below-zero (λ k. 0) (λ k. refl) n)
full_at true false z n =
    ap one (and_right (is_below z n) false refl) ∙ sym (below-zero (λ k. one (int_eq z (pos k) && false)) (λ k. ap one (and_right (int_eq z (pos k)) false refl)) n)
full_at true true (pos m) n =
    ap one (and-true (nat_lt m n)) ∙ sym (one-below m n) ∙ below-eq (λ k. one (m == k)) (λ k. one (int_eq (pos m) (pos k) && true)) (λ k. ap one (sym (int_eq-pos m k) ∙ sym (and-true (int_eq (pos m) (pos k))))) n
  where
    and-true : (b : Bool) → b && true ≡ b
    and-true true = refl
    and-true false = refl
full_at true true (negsuc m) n = sym (below-zero (λ k. one (int_eq (negsuc m) (pos k) && true)) (λ k. none k) n)
  where
    differ : (k : ℕ) → ◌≡◌ {A = ℤ} (negsuc m) (pos k) → ⊥
    differ k e = cc

    none : (k : ℕ) → one (int_eq (negsuc m) (pos k) && true) ≡ 0
    none k = ap (λ b. one (b && true)) (int_eq-differ (negsuc m) (pos k) (differ k))

-- the full chunks of numbers below n are those of each number
full_sum : (id : ℕ) (chunks : List Chunk) (n : ℕ) → count_by (is_full_below id n) chunks ≡ below (λ k. count_by (is_fit id k 1996) chunks) n
full_sum id [] n = sym (below-zero (λ k. 0) (λ k. refl) n)
full_sum id (c ∷ cs) n =
    let split = below-add (λ k. count_by (is_fit id k 1996) (c ∷ cs)) (λ k. one (is_fit id k 1996 c)) (λ k. count_by (is_fit id k 1996) cs) (λ k. sum_by-cons _ c cs) n in
    omega (arith, split, full_at (c.id == id) (has_size c.size 1996) c.seq n, full_sum id cs n, sum_by-cons (λ d. one (is_full_below id n d)) c cs)

full_once : (chunks : List Chunk) (id count last size k : ℕ) → IsFit chunks id count last size → count_by (is_fit id k 1996) chunks ≤ 1
full_once chunks id count last size k f = omega (arith, f.once k, fit-le-numbered id k 1996 chunks)

-- different numbers up to the last are no more than it says
pub count_most : (chunks : List Chunk) (id count last size : ℕ) → IsFit chunks id count last size → count ≤ last + 1
count_most chunks id count last size f =
    omega (arith, f.full, full_sum id chunks last, below-most (λ k. count_by (is_fit id k 1996) chunks) (λ k. full_once chunks id count last size k f) last)

-- chunks that fit, as many as there should be and the last as it should be, are a whole value's
pub fit_whole : (chunks : List Chunk) (p : ToastPointer) (count last size : ℕ) → IsFit chunks p.value_id count last size → count ≡ chunk_count (stored_size p) → last < count → size ≡ chunk_size (stored_size p) last → IsWhole chunks p
fit_whole chunks p count last size f all below_count is_size =
    let id = p.value_id in
    let g : ℕ → ℕ = λ k. count_by (is_fit id k 1996) chunks in
    let most = count_most chunks id count last size f in
    let enough : last ≤ below g last = omega (arith, f.full, full_sum id chunks last, most, below_count) in
    let lower : (k : ℕ) → k < last → g k ≡ 1 = each_is_one g last (λ k. full_once chunks id count last size k f) enough in
    let full : (k : ℕ) → k < last → chunk_size (stored_size p) k ≡ 1996 = λ k lt. size_before_last (stored_size p) k (omega (arith, lt, below_count, all)) in
    record {
      count = f.counted ∙ all;
      each = λ k lt.
          elim (cases_eq k last) [
            | inl same ↦ rw same (ap (λ z. count_by (is_fit id last z) chunks) (sym is_size) ∙ f.ended)
            | inr other ↦
                let lt_last : k < last = omega (arith, lt, most, all, other) in
                ap (λ z. count_by (is_fit id k z) chunks) (full k lt_last) ∙ lower k lt_last
          ];
    }

pub last_numbered : (chunks : List Chunk) (id count last size : ℕ) → IsFit chunks id count last size → 1 ≤ count_by (is_numbered id (pos last)) chunks
last_numbered chunks id count last size f = omega (arith, f.ended, fit-le-numbered id last size chunks)

-- the last of the chunks that fit is the last of a whole value
pub whole_last : (chunks : List Chunk) (p : ToastPointer) (count last size : ℕ) → IsFit chunks p.value_id count last size → IsWhole chunks p → last < count
whole_last chunks p count last size f w =
    omega (arith, whole_below chunks p last w (last_numbered chunks p.value_id count last size f), f.counted, w.count)

pub whole_last_size : (chunks : List Chunk) (p : ToastPointer) (count last size : ℕ) → IsFit chunks p.value_id count last size → IsWhole chunks p → size ≡ chunk_size (stored_size p) last
whole_last_size chunks p count last size f w =
    whole_sized chunks p last size w (whole_below chunks p last w (last_numbered chunks p.value_id count last size f)) (omega (arith, f.ended))

-- a test that tells whether a value is whole
pub whole_test : (chunks : List Chunk) (p : ToastPointer) (b : Bool) → (b ≡ true → IsWhole chunks p) → (IsWhole chunks p → b ≡ true) → b ≡ is_whole chunks p
whole_test chunks p true tells from = sym (is_whole-from chunks p (tells refl))
whole_test chunks p false tells from = sym (is_whole-false chunks p (λ w. false≢true (from w)))

-- a value without chunks is whole where it has no bytes
pub empty_test : (chunks : List Chunk) (p : ToastPointer) → count_by (is_of p.value_id) chunks ≡ 0 → (stored_size p == 0) ≡ is_whole chunks p
empty_test chunks p none =
    whole_test chunks p (stored_size p == 0) (λ e. let zero_count : chunk_count (stored_size p) ≡ 0 = count_zero (stored_size p) (eqb-true _ _ e) in record { count = none ∙ sym zero_count; each = λ k lt. absurd (omega (arith, lt, zero_count)) }) (λ w. eq-eqb _ _ (zero_from (stored_size p) (sym w.count ∙ none)))

-- chunks that fit are a whole value's by their count, their last number and its size
pub fit_test : (chunks : List Chunk) (p : ToastPointer) (count last size : ℕ) → IsFit chunks p.value_id count last size → count ≡ chunk_count (stored_size p) → last < count → (size == chunk_size (stored_size p) last) ≡ is_whole chunks p
fit_test chunks p count last size f all lt =
    whole_test chunks p (size == chunk_size (stored_size p) last) (λ e. fit_whole chunks p count last size f all lt (eqb-true _ _ e)) (λ w. eq-eqb _ _ (whole_last_size chunks p count last size f w))

pub unfit_test : (chunks : List Chunk) (p : ToastPointer) → IsNeverWhole chunks p.value_id → false ≡ is_whole chunks p
unfit_test chunks p never =
    whole_test chunks p false (λ e. absurd (false≢true e)) (λ w. absurd (never [] p refl (rw append-nil w)))
