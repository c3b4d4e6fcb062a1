-- One more chunk in a map.
use Rattle.std.proofs.Common.{◌≡◌, ℕ, Bool, true, false, cond, List, [], ◌∷◌, ◌++◌, get_or, length, refl, ap, sym, subst, ◌∙◌, arith}
use Rattle.std.specs.Prelude.{ℤ, ◌==◌, ◌&&◌, ◌≤◌, nat_lt, count_by, is_some, unwrap_or, Option, Some, None}
use Rattle.std.specs.declared.cmp.Ordering.{Ordering}
use Rattle.std.specs.declared.cmp.Ordering.TheVariants.{Less, Equal, Greater}
use Rattle.std.specs.BTreeMap.{BTreeMap, Updates, get, is_at}
use Rattle.std.specs.Ordering.{int_cmp, int_eq, is_eq, nat_cmp, ordering_then}
use Rattle.std.proofs.lemmas.Bool.{eqb-true, false≢true, ltb-true, ne_eqb, true≢false}
use Rattle.std.proofs.lemmas.List.{get_or_append_left, get_or_push, length_push}
use Rattle.std.proofs.lemmas.List.Sums.{get_or-le-sum_by, sum_by_push}
use Rattle.toast_chunks.specs.declared.map.Chunk.{Chunk}
use Rattle.toast_chunks.specs.declared.map.ChunkNumber.{ChunkNumber}
use Rattle.toast_chunks.specs.declared.value_chunks.ValueChunks.{ValueChunks}
use Rattle.toast_chunks.specs.declared.value_chunks.ValueChunks.TheVariants.{Empty}
use Rattle.toast_chunks.specs.Chunks.{is_numbered}
use Rattle.toast_chunks.specs.ValueChunks.{Describes}
use Rattle.toast_chunks.specs.Index.{FindsPlace, IsIndexed, number_cmp}
use Rattle.toast_chunks.proofs.Counts.{one}
use Rattle.toast_chunks.proofs.OneMore.{other_stays}

is_eq-cond : (a b : Bool) → (a ≡ true → b ≡ false) → is_eq (cond a Less (cond b Equal Greater)) ≡ b
is_eq-cond true true h = absurd (true≢false (h refl))
is_eq-cond true false h = refl
is_eq-cond false true h = refl
is_eq-cond false false h = refl

is_eq-nat_cmp : (x y : ℕ) → is_eq (nat_cmp x y) ≡ (x == y)
is_eq-nat_cmp x y = is_eq-cond (nat_lt x y) (x == y) (λ e. ne_eqb x y (λ same. omega (arith, ltb-true x y e)))

is_eq-then : (a b : Ordering) → is_eq (ordering_then a b) ≡ (is_eq a && is_eq b)
is_eq-then Less b = refl
is_eq-then Equal b = refl
is_eq-then Greater b = refl

-- the number of a chunk is this one
is_at-number : (c : Chunk) (id : ℕ) (seq : ℤ) → is_at (number_cmp (record { id = c.id; seq = c.seq })) (record { id = id; seq = seq }) ≡ is_numbered id seq c
is_at-number c id seq = is_eq-then (nat_cmp c.id id) (int_cmp c.seq seq) ∙ ap (λ b. b && int_eq c.seq seq) (is_eq-nat_cmp c.id id)

described_by : (chunks : List Chunk) (c : Chunk) (o n : Option ValueChunks) (q : ℕ) (next : ValueChunks) (b : Bool) → (c.id == q) ≡ b → Describes chunks q (unwrap_or o Empty) → Describes (chunks ++ c ∷ []) c.id next → n ≡ cond b (Some next) o → Describes (chunks ++ c ∷ []) q (unwrap_or n Empty)
described_by chunks c o n q next true e was now is =
    let P : ValueChunks → Type 0 = Describes (chunks ++ c ∷ []) q in
    let Q : ℕ → Type 0 = λ id. Describes (chunks ++ c ∷ []) id next in
    subst P (sym (ap (λ (m : Option ValueChunks). unwrap_or m Empty) is)) (subst Q (eqb-true c.id q e) now)
described_by chunks c o n q next false e was now is =
    let P : ValueChunks → Type 0 = Describes (chunks ++ c ∷ []) q in
    subst P (sym (ap (λ (m : Option ValueChunks). unwrap_or m Empty) is)) (other_stays chunks c q (unwrap_or o Empty) e was)

-- what is kept of the values goes on
described_next : (chunks : List Chunk) (c : Chunk) (o n : Option ValueChunks) (q : ℕ) (next : ValueChunks) → Describes chunks q (unwrap_or o Empty) → Describes (chunks ++ c ∷ []) c.id next → n ≡ cond (is_at (nat_cmp c.id) q) (Some next) o → Describes (chunks ++ c ∷ []) q (unwrap_or n Empty)
described_next chunks c o n q next was now is =
    described_by chunks c o n q next (c.id == q) refl was now (is ∙ ap (λ b. cond b (Some next) o) (is_eq-nat_cmp c.id q))

-- a place of a number tells whether there is a chunk of it
pub place_tells : (chunks : List Chunk) (c : Chunk) (id : ℕ) (seq : ℤ) (o : Option ℕ) → FindsPlace chunks id seq o → (is_some o ≡ true → 1 ≤ count_by (is_numbered id seq) chunks) × (1 ≤ count_by (is_numbered id seq) chunks → is_some o ≡ true)
place_tells chunks c id seq None none = (λ e. absurd (false≢true e), λ some. absurd (omega (arith, none, some)))
place_tells chunks c id seq (Some i) finds =
    let f : Chunk → ℕ = λ d. one (is_numbered id seq d) in
    let here : f (get_or chunks i c) ≡ 1 = ap one (finds.1 c) in
    (λ e. omega (arith, here, get_or-le-sum_by f chunks i c finds.0), λ some. refl)

-- a place stays where another chunk is added
place_stays : (chunks : List Chunk) (c : Chunk) (id : ℕ) (seq : ℤ) (o : Option ℕ) → is_numbered id seq c ≡ false → FindsPlace chunks id seq o → FindsPlace (chunks ++ c ∷ []) id seq o
place_stays chunks c id seq None e was =
    let none : one (is_numbered id seq c) ≡ 0 = ap one e in
    omega (arith, sum_by_push (λ d. one (is_numbered id seq d)) chunks c, none, was)
place_stays chunks c id seq (Some i) e was =
    (omega (arith, was.0, length_push chunks c), λ d. rw (get_or_append_left chunks (c ∷ []) d i was.0) (was.1 d))

found_by : (chunks : List Chunk) (c : Chunk) (id : ℕ) (seq : ℤ) (o n : Option ℕ) (b : Bool) → is_numbered id seq c ≡ b → FindsPlace chunks id seq o → n ≡ cond b (Some (length chunks)) o → FindsPlace (chunks ++ c ∷ []) id seq n
found_by chunks c id seq o n true e was is =
    let P : Option ℕ → Type 0 = FindsPlace (chunks ++ c ∷ []) id seq in
    subst P (sym is) (omega (arith, length_push chunks c), λ d. rw (get_or_push chunks c d (length chunks) refl) e)
found_by chunks c id seq o n false e was is =
    let P : Option ℕ → Type 0 = FindsPlace (chunks ++ c ∷ []) id seq in
    subst P (sym is) (place_stays chunks c id seq o e was)

-- the places go on
found_next : (chunks : List Chunk) (c : Chunk) (id : ℕ) (seq : ℤ) (o n : Option ℕ) → FindsPlace chunks id seq o → n ≡ cond (is_at (number_cmp (record { id = c.id; seq = c.seq })) (record { id = id; seq = seq })) (Some (length chunks)) o → FindsPlace (chunks ++ c ∷ []) id seq n
found_next chunks c id seq o n was is = found_by chunks c id seq o n _ refl was (is ∙ ap (λ b. cond b (Some (length chunks)) o) (is_at-number c id seq))

-- the index goes on
pub indexed_next : (chunks : List Chunk) (c : Chunk) (values roomy values' : BTreeMap ℕ ValueChunks) (places places' : BTreeMap ChunkNumber ℕ) (next : ValueChunks) (place : ℕ) → IsIndexed chunks values places → ((q : ℕ) → unwrap_or (get nat_cmp roomy q) Empty ≡ unwrap_or (get nat_cmp values q) Empty) → Describes (chunks ++ c ∷ []) c.id next → Updates nat_cmp roomy values' c.id (Some next) → place ≡ length chunks → Updates number_cmp places places' (record { id = c.id; seq = c.seq }) (Some place) → IsIndexed (chunks ++ c ∷ []) values' places'
indexed_next chunks c values roomy values' places places' next place index same now set at placed = record {
  described = λ q.
      let P : ValueChunks → Type 0 = Describes chunks q in
      described_next chunks c (get nat_cmp roomy q) _ q next (subst P (sym (same q)) (index.described q)) now (set.0 q);
  found = λ id seq. found_next chunks c id seq _ _ (index.found id seq) (placed.0 (record { id = id; seq = seq }) ∙ ap (λ m. cond (is_at (number_cmp (record { id = c.id; seq = c.seq })) (record { id = id; seq = seq })) (Some m) (get number_cmp places (record { id = id; seq = seq }))) at);
}
