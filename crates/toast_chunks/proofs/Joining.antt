-- One more chunk of a whole value.
use Rattle.std.proofs.Common.{◌≡◌, ℕ, zero, suc, ◌+◌, ◌<◌, ◌≤◌, Bool, true, List, [], ◌∷◌, ◌++◌, get_or, refl, ap, sym, subst, ◌∙◌, inl, inr, arith, add-one, append_assoc}
use Rattle.std.specs.Prelude.{pos, count_by, find, slice_get, Option, Some, None, IsSome}
use Rattle.std.specs.Option.{option_map_or}
use Rattle.std.proofs.lemmas.Bool.{cases_Bool, cond-false, cond-true, false≢true}
use Rattle.std.proofs.lemmas.List.Sums.{get_or-le-sum_by, sum_by-cons}
use Rattle.std.proofs.lemmas.Option.{get_or_from_slice_get}
use Rattle.outside.specs.Outside.{Names}
use Rattle.rel_files.specs.declared.relation.Relation.{Relation}
use Rattle.varlena_attrs.specs.declared.places.ToastPointer.{ToastPointer}
use Rattle.toast_chunks.specs.declared.map.Chunk.{Chunk}
use Rattle.toast_chunks.specs.Chunks.{IsWhole, has_size, is_numbered, is_whole}
use Rattle.toast_chunks.specs.InHand.{Grows, PushesChunk}
use Rattle.toast_chunks.specs.Index.{FindsChunk}
use Rattle.toast_chunks.specs.Pointer.{chunk_count, chunk_size, stored_size}
use Rattle.toast_chunks.specs.Stored.{AllStand, StandsIn}
use Rattle.toast_chunks.specs.Value.{chunk_bytes, joined_below, joined_bytes, numbered_bytes, value_of_pointer}
use Rattle.rel_files.specs.Relation.{base_of, size_of}
use Rattle.toast_chunks.proofs.Counts.{one}
use Rattle.toast_chunks.proofs.Finding.{in_list, is_whole-tells, numbered_once, unfit_found}

some_counted : (p : Chunk → Bool) (xs : List Chunk) (i : ℕ) (c : Chunk) → slice_get xs i ≡ Some c → p c ≡ true → 1 ≤ count_by p xs
some_counted p xs i c at passes =
    let f : Chunk → ℕ = λ d. one (p d) in
    let here : f (get_or xs i c) ≡ 1 = ap f (get_or_from_slice_get xs i c c at) ∙ ap one passes in
    omega (arith, here, get_or-le-sum_by f xs i c (in_list xs i c at))

some_parts : (c d : Chunk) → ◌≡◌ {A = Option Chunk} (Some c) (Some d) → c ≡ d
some_parts c d e = cc

-- where one passes, it is the first that does
find_once : (p : Chunk → Bool) (xs : List Chunk) (i : ℕ) (c : Chunk) → count_by p xs ≡ 1 → slice_get xs i ≡ Some c → p c ≡ true → find p xs ≡ Some c
find_once p [] i c count at passes = absurd cc
find_once p (x ∷ xs) zero c count at passes =
    let same = some_parts x c at in
    cond-true _ _ _ (ap p same ∙ passes) ∙ at
find_once p (x ∷ xs) (suc i) c count at passes =
    elim (cases_Bool (p x)) [
      | inl e ↦ let first : one (p x) ≡ 1 = ap one e in absurd (omega (arith, first, count, sum_by-cons (λ d. one (p d)) x xs, some_counted p xs i c at passes))
      | inr e ↦ let first : one (p x) ≡ 0 = ap one e in cond-false _ _ _ e ∙ find_once p xs i c (omega (arith, first, count, sum_by-cons (λ d. one (p d)) x xs)) at passes
    ]

sized : (o : Option ℕ) (n : ℕ) → has_size o n ≡ true → IsSome o
sized None n h = absurd (false≢true h)
sized (Some m) n h = refl

-- the chunk that is found stands at its place
found_stands : (names : Names) (toast : Relation) (chunks : List Chunk) (p : ToastPointer) (k : ℕ) (c : Chunk) → IsWhole chunks p → k < chunk_count (stored_size p) → AllStand names toast chunks → FindsChunk chunks p.value_id (pos k) (Some c) → StandsIn names toast c
found_stands names toast chunks p k c w lt all finds =
    let lt_i = in_list chunks finds.0 c finds.1 in
    let at = get_or_from_slice_get chunks finds.0 c c finds.1 in
    let P : Chunk → Type 0 = λ d. IsSome d.size → StandsIn names toast d in
    let has : has_size c.size (chunk_size (stored_size p) k) ≡ true = elim (cases_Bool (has_size c.size (chunk_size (stored_size p) k))) [ inl e ↦ e | inr e ↦ absurd (unfit_found chunks p k (Some c) lt finds e w) ] in
    subst P at (all finds.0 c lt_i) (sized c.size _ has)

pub joined_next : (names : Names) (toast : Relation) (chunks : List Chunk) (p : ToastPointer) (k : ℕ) (c : Chunk) (begun old new : List ℕ) → is_whole chunks p ≡ true → k < chunk_count (stored_size p) → AllStand names toast chunks → FindsChunk chunks p.value_id (pos k) (Some c) → PushesChunk names toast c.tid old new → old ≡ begun ++ joined_below names (base_of toast) (size_of toast) chunks p.value_id k → new ≡ begun ++ joined_below names (base_of toast) (size_of toast) chunks p.value_id (k + 1)
joined_next names toast chunks p k c begun old new whole lt all finds pushes so_far =
    let w = is_whole-tells chunks p whole in
    let stands = found_stands names toast chunks p k c w lt all finds in
    let is : find (is_numbered p.value_id (pos k)) chunks ≡ Some c = find_once (is_numbered p.value_id (pos k)) chunks finds.0 c (numbered_once chunks p w k lt) finds.1 finds.2 in
    let bytes : numbered_bytes names (base_of toast) (size_of toast) chunks p.value_id k ≡ chunk_bytes names (base_of toast) (size_of toast) c = ap (λ (o : Option Chunk). option_map_or (chunk_bytes names (base_of toast) (size_of toast)) o []) is in
    let before = joined_below names (base_of toast) (size_of toast) chunks p.value_id k in
    rw add-one (
    pushes stands.block stands.item.row
    ∙ ap (λ xs. xs ++ chunk_bytes names (base_of toast) (size_of toast) c) so_far
    ∙ append_assoc begun before (chunk_bytes names (base_of toast) (size_of toast) c)
    ∙ ap (λ ys. begun ++ (before ++ ys)) (sym bytes)
    )

-- what was added before and what is added after it are added together
pub grown : (a b c : List ℕ) → Grows a b → Grows b c → Grows a c
grown a b c first second =
    (first.0 ++ second.0, second.1 ∙ ap (λ xs. xs ++ second.0) first.1 ∙ append_assoc a first.0 second.0)

-- each chunk of a whole value is found
pub none_not_found : (chunks : List Chunk) (p : ToastPointer) (k : ℕ) → is_whole chunks p ≡ true → k < chunk_count (stored_size p) → FindsChunk chunks p.value_id (pos k) None → ⊥
none_not_found chunks p k whole lt finds = unfit_found chunks p k None lt finds refl (is_whole-tells chunks p whole)

pub joined_all : (names : Names) (toast : Relation) (chunks : List Chunk) (p : ToastPointer) (k : ℕ) (begun bytes : List ℕ) → k ≡ chunk_count (stored_size p) → bytes ≡ begun ++ joined_below names (base_of toast) (size_of toast) chunks p.value_id k → bytes ≡ begun ++ value_of_pointer names toast chunks p
unfolding joined_bytes
joined_all names toast chunks p k begun bytes e h = h ∙ ap (λ n. begun ++ joined_below names (base_of toast) (size_of toast) chunks p.value_id n) e
