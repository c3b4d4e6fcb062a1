-- What the chunks that are found by their numbers tell of a value.
use Rattle.std.proofs.Common.{◌≡◌, ℕ, zero, suc, ◌<◌, Bool, true, false, List, [], ◌∷◌, length, get_or, refl, ap, sym, subst, ◌∙◌, inl, inr, arith}
use Rattle.std.specs.Prelude.{ℤ, pos, ◌==◌, count_by, Option, Some, None, slice_get}
use Rattle.std.specs.Option.{option_map_or}
use Rattle.std.proofs.lemmas.Bool.{and_from, and_parts, cases_Bool, eq-eqb, eqb-true}
use Rattle.std.proofs.lemmas.Bool.Decides.{Decides-below_and}
use Rattle.std.specs.BTreeMap.{BTreeMap, get}
use Rattle.std.proofs.lemmas.Option.{get_or_from_slice_get, slice_get-get_or}
use Rattle.varlena_attrs.specs.declared.places.ToastPointer.{ToastPointer}
use Rattle.toast_chunks.specs.declared.map.Chunk.{Chunk}
use Rattle.toast_chunks.specs.Chunks.{IsWhole, all_below, is_whole, has_size, is_fit, is_numbered}
use Rattle.toast_chunks.specs.declared.map.ChunkNumber.{ChunkNumber}
use Rattle.toast_chunks.specs.Index.{FindsChunk, FindsPlace, number_cmp}
use Rattle.toast_chunks.specs.Pointer.{chunk_count, chunk_size, stored_size}
use Rattle.toast_chunks.specs.Laws.{WholeIsTested}
use Rattle.toast_chunks.proofs.Counts.{each_is_one, fit-le-numbered, numbered-le-of, unfit-lt-numbered}

pub in_list : (chunks : List Chunk) (i : ℕ) (c : Chunk) → slice_get chunks i ≡ Some c → i < length chunks
in_list [] i c e = absurd cc
in_list (d ∷ ds) zero c e = omega arith
in_list (d ∷ ds) (suc i) c e = omega (arith, in_list ds i c e)

-- a whole value has one chunk of each number
pub numbered_once : (chunks : List Chunk) (p : ToastPointer) → IsWhole chunks p → (k : ℕ) → k < chunk_count (stored_size p) → count_by (is_numbered p.value_id (pos k)) chunks ≡ 1
numbered_once chunks p w =
    each_is_one (λ k. count_by (is_numbered p.value_id (pos k)) chunks) _ (λ k lt. omega (arith, w.each k lt, fit-le-numbered p.value_id k (chunk_size (stored_size p) k) chunks)) (omega (arith, numbered-le-of p.value_id chunks (chunk_count (stored_size p)), w.count))

-- none is found, or one of another size: the value isn't whole
pub unfit_found : (chunks : List Chunk) (p : ToastPointer) (k : ℕ) (o : Option Chunk) → k < chunk_count (stored_size p) → FindsChunk chunks p.value_id (pos k) o → option_map_or (λ c. has_size c.size (chunk_size (stored_size p) k)) o false ≡ false → IsWhole chunks p → ⊥
unfit_found chunks p k None lt finds unfit w =
    absurd (omega (arith, finds, w.each k lt, fit-le-numbered p.value_id k (chunk_size (stored_size p) k) chunks))
unfit_found chunks p k (Some c) lt finds unfit w =
    absurd (omega (arith, w.each k lt, numbered_once chunks p w k lt, unfit-lt-numbered p.value_id k (chunk_size (stored_size p) k) chunks finds.0 c (in_list chunks finds.0 c finds.1) (get_or_from_slice_get chunks finds.0 c c finds.1) finds.2 unfit))

-- what a look-up of a number gave
pub place_found : (chunks : List Chunk) (places : BTreeMap ChunkNumber ℕ) (id k : ℕ) (seq : ℤ) (o : Option ℕ) → ((id : ℕ) (seq : ℤ) → FindsPlace chunks id seq (get number_cmp places (record { id = id; seq = seq }))) → o ≡ get number_cmp places (record { id = id; seq = seq }) → seq ≡ pos k → FindsPlace chunks id (pos k) o
place_found chunks places id k seq o found is e =
    let P : ℤ → Type 0 = λ z. FindsPlace chunks id z o in
    let Q : Option ℕ → Type 0 = FindsPlace chunks id seq in
    subst P e (subst Q (sym is) (found id seq))

pub chunk_found : (chunks : List Chunk) (id : ℕ) (seq : ℤ) (i : ℕ) (c : Chunk) → FindsPlace chunks id seq (Some i) → c ≡ get_or chunks i c → FindsChunk chunks id seq (Some c)
chunk_found chunks id seq i c finds at =
    (i, slice_get-get_or chunks i c finds.0 ∙ ap Some (sym at), rw at (finds.1 c))

all_below-true : (test : ℕ → Bool) (n : ℕ) → all_below test n ≡ true → (k : ℕ) → k < n → test k ≡ true
all_below-true test n h k lt = (Decides-below_and test (λ k. test k ≡ true) (all_below test) (λ k. ((λ e. e), (λ e. e))) refl (λ _. refl) n).0 h k lt

all_below-from : (test : ℕ → Bool) (n : ℕ) → ((k : ℕ) → k < n → test k ≡ true) → all_below test n ≡ true
all_below-from test n h = (Decides-below_and test (λ k. test k ≡ true) (all_below test) (λ k. ((λ e. e), (λ e. e))) refl (λ _. refl) n).1 h

-- the test tells whether a value is whole
pub is_whole-tells : (chunks : List Chunk) (p : ToastPointer) → is_whole chunks p ≡ true → IsWhole chunks p
unfolding is_whole
is_whole-tells chunks p h =
    let both = and_parts _ _ h in
    record {
      count = eqb-true _ _ both.0;
      each = λ k lt. eqb-true _ _ (all_below-true (λ k. count_by (is_fit p.value_id k (chunk_size (stored_size p) k)) chunks == 1) (chunk_count (stored_size p)) both.1 k lt);
    }

pub is_whole-from : (chunks : List Chunk) (p : ToastPointer) → IsWhole chunks p → is_whole chunks p ≡ true
unfolding is_whole
is_whole-from chunks p w =
    and_from _ _ (eq-eqb _ _ w.count) (all_below-from (λ k. count_by (is_fit p.value_id k (chunk_size (stored_size p) k)) chunks == 1) (chunk_count (stored_size p)) (λ k lt. eq-eqb _ _ (w.each k lt)))

pub is_whole-false : (chunks : List Chunk) (p : ToastPointer) → (IsWhole chunks p → ⊥) → is_whole chunks p ≡ false
is_whole-false chunks p h =
    elim (cases_Bool (is_whole chunks p)) [ inl e ↦ absurd (h (is_whole-tells chunks p e)) | inr e ↦ e ]

pub is_whole-sentence : (chunks : List Chunk) (p : ToastPointer) → WholeIsTested chunks p
is_whole-sentence chunks p = (is_whole-tells chunks p, is_whole-from chunks p)
