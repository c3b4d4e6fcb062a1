-- Two lists of the same chunks, each once, have the same values whole.
use Rattle.std.proofs.Common.{◌≡◌, zero, suc, ◌≤◌, Bool, List, [], ◌∷◌, ◌++◌, refl, sym, ap, subst, ◌∙◌, arith}
use Rattle.std.specs.Prelude.{AllPairs, Contains, count_by, if◌then◌else◌}
use Rattle.std.proofs.lemmas.List.Elements.{All-contains}
use Rattle.std.proofs.lemmas.List.Sums.{sum_by-append, sum_by-cons}
use Rattle.outside.specs.Outside.{Names}
use Rattle.case_file.specs.Record.{CaseRecord}
use Rattle.varlena_attrs.specs.declared.places.ToastPointer.{ToastPointer}
use Rattle.toast_chunks.specs.Chunks.{IsWhole}
use Rattle.toast_chunks.specs.declared.map.Chunk.{Chunk}
use Rattle.heap_table_check.specs.Broken.{AreChunksOf, IsChunkRow}

-- what stands before a member of a list and after it
record HasParts {X : Type 0} (xs : List X) (x : X) : Type 0 where
  before : List X
  after : List X
  is : xs ≡ before ++ x ∷ after

parts_at : {X : Type 0} (xs : List X) (x : X) → Contains xs x → HasParts xs x
parts_at [] x has = absurd (omega (arith, has.1))
parts_at (y ∷ xs) x (zero, lt, e) = record { before = []; after = xs; is = ap (λ z. z ∷ xs) e }
parts_at (y ∷ xs) x (suc k, lt, e) =
    let parts = parts_at xs x (k, omega (arith, lt), e) in
    record { before = y ∷ parts.before; after = parts.after; is = ap (λ l. y ∷ l) parts.is }

-- another member is among these parts
other_member : {X : Type 0} (before after : List X) (x y : X) → Contains (before ++ x ∷ after) y → (x ≡ y → ⊥) → Contains (before ++ after) y
other_member [] after x y (zero, lt, e) other = absurd (other e)
other_member [] after x y (suc k, lt, e) other = (k, omega (arith, lt), e)
other_member (z ∷ before) after x y (zero, lt, e) other = (zero, omega arith, e)
other_member (z ∷ before) after x y (suc k, lt, e) other =
    let rest = other_member before after x y (k, omega (arith, lt), e) other in
    (suc rest.0, omega (arith, rest.1), rest.2)

-- a list without a member twice, all of whose members are in another, has no more that pass a test
no_more : {X : Type 0} (p : X → Bool) (xs ys : List X) → AllPairs (λ x y. ¬ (x ≡ y)) xs → ((x : X) → Contains xs x → Contains ys x) → count_by p xs ≤ count_by p ys
no_more p [] ys apart within = omega arith
no_more p (x ∷ xs) ys apart within =
    let parts = parts_at ys x (within x (0, omega arith, refl)) in
    let rest = no_more p xs (parts.before ++ parts.after)
    (λ i j d lt inside. apart (suc i) (suc j) d (omega arith) (omega arith))
    (λ y has. other_member parts.before parts.after x y
    (subst (λ l. Contains l y) parts.is (within y (suc has.0, omega (arith, has.1), has.2)))
    (λ same. apart 0 (suc has.0) y (omega arith) (omega (arith, has.1)) (same ∙ sym has.2))) in
    let first = sum_by-cons (λ z. if p z then 1 else 0) x xs in
    let all = ap (count_by p) parts.is in
    let both = sum_by-append (λ z. if p z then 1 else 0) parts.before (x ∷ parts.after) in
    let one = sum_by-cons (λ z. if p z then 1 else 0) x parts.after in
    let others = sum_by-append (λ z. if p z then 1 else 0) parts.before parts.after in
    omega (arith, rest, first, all, both, one, others)

as_many : {X : Type 0} (p : X → Bool) (xs ys : List X) → AllPairs (λ x y. ¬ (x ≡ y)) xs → AllPairs (λ x y. ¬ (x ≡ y)) ys → ((x : X) → Contains xs x → Contains ys x) → ((x : X) → Contains ys x → Contains xs x) → count_by p xs ≡ count_by p ys
as_many p xs ys first second there back = omega (arith, no_more p xs ys first there, no_more p ys xs second back)

-- chunks at different places are different
differ : (chunks : List Chunk) → AllPairs (λ c d. ¬ (c.tid ≡ d.tid)) chunks → AllPairs (λ c d. ¬ (c ≡ d)) chunks
differ chunks apart i j d lt within same = apart i j d lt within (ap (λ (c : Chunk). c.tid) same)

module _ (case : CaseRecord) (names : Names) (xs ys : List Chunk) (first : AreChunksOf case names xs) (second : AreChunksOf case names ys) where
  same_count : (p : Chunk → Bool) → count_by p xs ≡ count_by p ys
  same_count p =
      as_many p xs ys (differ xs first.apart) (differ ys second.apart)
      (λ c has. second.all c (All-contains (IsChunkRow case names) xs c first.each has))
      (λ c has. first.all c (All-contains (IsChunkRow case names) ys c second.each has))

  pub whole_there : (p : ToastPointer) → IsWhole xs p → IsWhole ys p
  whole_there p whole = record {
    count = sym (same_count _) ∙ whole.count;
    each = λ k lt. sym (same_count _) ∙ whole.each k lt;
  }
