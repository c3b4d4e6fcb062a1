-- Chunks that are those of no whole value, whatever chunks there are besides.
use Rattle.std.proofs.Common.{◌≡◌, ℕ, zero, suc, ◌<◌, ◌≤◌, Bool, true, false, List, [], ◌∷◌, ◌++◌, refl, ap, sym, subst, ◌∙◌, arith}
use Rattle.std.specs.Prelude.{ℤ, pos, negsuc, ◌==◌, ◌&&◌, count_by, Option, Some, None}
use Rattle.std.specs.Ordering.{int_eq}
use Rattle.std.proofs.lemmas.Bool.{and_right, both_ways, eq-eqb, ltb-true, true≢false}
use Rattle.std.proofs.Math.IntN.{nat_abs}
use Rattle.std.specs.Int.Signed.{lt_z}
use Rattle.std.proofs.lemmas.List.{append_assoc}
use Rattle.toast_chunks.specs.declared.map.Chunk.{Chunk}
use Rattle.toast_chunks.specs.Chunks.{IsWhole, has_size, is_fit, is_numbered}
use Rattle.toast_chunks.specs.Pointer.{chunk_size, stored_size}
use Rattle.toast_chunks.specs.ValueChunks.{IsFit, IsNeverWhole}
use Rattle.toast_chunks.proofs.Counts.{one}
use Rattle.toast_chunks.proofs.Finding.{numbered_once}
use Rattle.toast_chunks.proofs.Fitting.{int_eq-differ, last_numbered}
use Rattle.toast_chunks.proofs.OneMore.{fit_own, numbered_own}
use Rattle.toast_chunks.proofs.Wholes.{count-parts, none_stray, size_before_last, whole_below, whole_sized}

-- a chunk without a size
pub unsized_never : (chunks : List Chunk) (c : Chunk) → c.size ≡ None → IsNeverWhole (chunks ++ c ∷ []) c.id
unsized_never chunks c none = λ more p e w.
    none_stray chunks c more p (eq-eqb c.id p.value_id (sym e)) (λ k. and_right (is_numbered p.value_id (pos k) c) _ (ap (λ (o : Option ℕ). has_size o (chunk_size (stored_size p) k)) none)) w

-- a chunk of a negative number
pub negative_never : (chunks : List Chunk) (c : Chunk) (m : ℕ) → c.seq ≡ negsuc m → IsNeverWhole (chunks ++ c ∷ []) c.id
negative_never chunks c m seq = λ more p e w.
    none_stray chunks c more p (eq-eqb c.id p.value_id (sym e)) (λ k. ap (λ b. b && has_size c.size (chunk_size (stored_size p) k)) (and_right (c.id == p.value_id) _ (differ k))) w
  where
    apart : (k : ℕ) → ◌≡◌ {A = ℤ} (negsuc m) (pos k) → ⊥
    apart k e = cc

    differ : (k : ℕ) → int_eq c.seq (pos k) ≡ false
    differ k = ap (λ z. int_eq z (pos k)) seq ∙ int_eq-differ (negsuc m) (pos k) (apart k)

pub below_zero_never : (chunks : List Chunk) (c : Chunk) (z : ℤ) → c.seq ≡ z → lt_z z (pos 0) ≡ true → IsNeverWhole (chunks ++ c ∷ []) c.id
below_zero_never chunks c (pos m) seq e = absurd (omega (arith, ltb-true m 0 e))
below_zero_never chunks c (negsuc m) seq e = negative_never chunks c m seq

pub not_below_zero : (z : ℤ) → lt_z z (pos 0) ≡ false → z ≡ pos (nat_abs z)
not_below_zero (pos m) e = refl
not_below_zero (negsuc m) e = absurd (true≢false e)

pub none_seen : (n : ℕ) (again : Bool) → (1 ≤ n → again ≡ true) → again ≡ false → n ≡ 0
none_seen zero again h e = refl
none_seen (suc n) again h e = absurd (both_ways again e (h (omega arith)))

-- a number twice
pub twice_never : (chunks : List Chunk) (c : Chunk) → 1 ≤ count_by (is_numbered c.id c.seq) chunks → IsNeverWhole (chunks ++ c ∷ []) c.id
twice_never chunks c some = go c.seq refl
  where
    go : (z : ℤ) → c.seq ≡ z → IsNeverWhole (chunks ++ c ∷ []) c.id
    go (negsuc m) seq = negative_never chunks c m seq
    go (pos k) seq = λ more p e w.
        let xs = chunks ++ c ∷ [] ++ more in
        let P : ℤ → Type 0 = λ z. 1 ≤ count_by (is_numbered c.id z) chunks in
        let Q : ℕ → Type 0 = λ id. 1 ≤ count_by (is_numbered id (pos k)) chunks in
        let before : 1 ≤ count_by (is_numbered p.value_id (pos k)) chunks = subst Q (sym e) (subst P seq some) in
        let here : one (is_numbered p.value_id (pos k) c) ≡ 1 = ap one (numbered_own c p.value_id k (sym e) seq) in
        let parts = count-parts (is_numbered p.value_id (pos k)) chunks c more in
        let lt = whole_below xs p k w (omega (arith, parts, here)) in
        absurd (omega (arith, before, here, parts, numbered_once xs p w k lt))

-- a chunk past the last, which isn't full
pub later_never : (chunks : List Chunk) (c : Chunk) (count last size k : ℕ) → IsFit chunks c.id count last size → c.seq ≡ pos k → last < k → (size ≡ 1996 → ⊥) → IsNeverWhole (chunks ++ c ∷ []) c.id
later_never chunks c count last size k fits seq lt unfull = λ more p e w.
    let xs = chunks ++ c ∷ [] ++ more in
    let P : ℕ → Type 0 = λ id. IsFit chunks id count last size in
    let f : IsFit chunks p.value_id count last size = subst P (sym e) fits in
    let here : one (is_numbered p.value_id (pos k) c) ≡ 1 = ap one (numbered_own c p.value_id k (sym e) seq) in
    let lt_k = whole_below xs p k w (omega (arith, here, count-parts (is_numbered p.value_id (pos k)) chunks c more)) in
    let due = whole_sized xs p last size w (omega (arith, lt, lt_k)) (omega (arith, f.ended, count-parts (is_fit p.value_id last size) chunks c more)) in
    unfull (due ∙ size_before_last (stored_size p) last (omega (arith, lt, lt_k)))

-- a chunk before the last that isn't full
pub earlier_never : (chunks : List Chunk) (c : Chunk) (count last size k z : ℕ) → IsFit chunks c.id count last size → c.seq ≡ pos k → c.size ≡ Some z → k < last → (z ≡ 1996 → ⊥) → IsNeverWhole (chunks ++ c ∷ []) c.id
earlier_never chunks c count last size k z fits seq is lt unfull = λ more p e w.
    let xs = chunks ++ c ∷ [] ++ more in
    let P : ℕ → Type 0 = λ id. IsFit chunks id count last size in
    let f : IsFit chunks p.value_id count last size = subst P (sym e) fits in
    let lt_last = whole_below xs p last w (omega (arith, last_numbered chunks p.value_id count last size f, count-parts (is_numbered p.value_id (pos last)) chunks c more)) in
    let here : one (is_fit p.value_id k z c) ≡ 1 = ap one (fit_own c p.value_id k z (sym e) seq is) in
    let due = whole_sized xs p k z w (omega (arith, lt, lt_last)) (omega (arith, here, count-parts (is_fit p.value_id k z) chunks c more)) in
    unfull (due ∙ size_before_last (stored_size p) k (omega (arith, lt, lt_last)))

-- more of them
pub more_never : (chunks : List Chunk) (c : Chunk) (id : ℕ) → IsNeverWhole chunks id → IsNeverWhole (chunks ++ c ∷ []) id
more_never chunks c id never = λ more p e w.
    let P : List Chunk → Type 0 = λ xs. IsWhole xs p in never (c ∷ more) p e (subst P (append_assoc chunks (c ∷ []) more) w)
