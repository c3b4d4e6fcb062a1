-- One more chunk of a value that fits, or of another value.
use Rattle.std.proofs.Common.{◌≡◌, ℕ, ◌+◌, ◌<◌, ◌≤◌, ◌^◌, Bool, true, false, List, [], ◌∷◌, ◌++◌, refl, ap, sym, subst, ◌∙◌, inl, inr, arith}
use Rattle.std.specs.Prelude.{ℤ, pos, negsuc, ◌==◌, ◌&&◌, count_by, Option, Some}
use Rattle.std.specs.Ordering.{int_eq}
use Rattle.std.proofs.lemmas.Bool.{and_from, and_right, cases_eq, eq-eqb, false≢true, lt-ltb, ltb-true, true≢false}
use Rattle.std.proofs.lemmas.Bool.Decides.{Decides-int_eq}
use Rattle.std.proofs.lemmas.List.{append_assoc}
use Rattle.std.proofs.lemmas.List.Sums.{sum_by-le-sum_by}
use Rattle.toast_chunks.specs.declared.map.Chunk.{Chunk}
use Rattle.toast_chunks.specs.declared.value_chunks.ValueChunks.{ValueChunks}
use Rattle.toast_chunks.specs.declared.value_chunks.ValueChunks.TheVariants.{Empty, Fit, Unfit}
use Rattle.toast_chunks.specs.Chunks.{IsWhole, has_size, is_fit, is_numbered, is_of}
use Rattle.toast_chunks.specs.ValueChunks.{Describes, IsFit, is_below, is_full_below}
use Rattle.toast_chunks.proofs.Counts.{fit-le-numbered, int_eq-same, one}
use Rattle.toast_chunks.proofs.Fitting.{last_numbered, pos-differ}
use Rattle.toast_chunks.proofs.Wholes.{count-push, sum-pair}

one-le : (b : Bool) → one b ≤ 1
one-le true = omega arith
one-le false = omega arith

and-le : (a b : Bool) → one (a && b) ≤ one a
and-le true b = one-le b
and-le false b = omega arith

and-and-le : (a b h : Bool) → one (a && b && h) ≤ one a
and-and-le true b h = one-le (b && h)
and-and-le false b h = omega arith

numbered-le : (id : ℕ) (seq : ℤ) (chunks : List Chunk) → count_by (is_numbered id seq) chunks ≤ count_by (is_of id) chunks
numbered-le id seq chunks = sum_by-le-sum_by (λ c. one (is_numbered id seq c)) (λ c. one (is_of id c)) chunks (λ c. and-le (c.id == id) (int_eq c.seq seq))

full-le : (id n : ℕ) (chunks : List Chunk) → count_by (is_full_below id n) chunks ≤ count_by (is_of id) chunks
full-le id n chunks = sum_by-le-sum_by (λ c. one (is_full_below id n c)) (λ c. one (is_of id c)) chunks (λ c. and-and-le (c.id == id) (is_below c.seq n) (has_size c.size 1996))

-- What a chunk of its own value and number is

of_own : (c : Chunk) → is_of c.id c ≡ true
of_own c = eq-eqb c.id c.id refl

pub numbered_own : (c : Chunk) (id k : ℕ) → c.id ≡ id → c.seq ≡ pos k → is_numbered id (pos k) c ≡ true
numbered_own c id k of seq = and_from _ _ (eq-eqb c.id id of) (int_eq-same c.seq (pos k) seq)

pub fit_own : (c : Chunk) (id k size : ℕ) → c.id ≡ id → c.seq ≡ pos k → c.size ≡ Some size → is_fit id k size c ≡ true
fit_own c id k size of seq is = and_from _ _ (numbered_own c id k of seq) (ap (λ (o : Option ℕ). has_size o size) is ∙ eq-eqb size size refl)

full_own : (c : Chunk) (k n : ℕ) → c.seq ≡ pos k → k < n → c.size ≡ Some 1996 → is_full_below c.id n c ≡ true
full_own c k n seq lt is =
    and_from _ _ (and_from _ _ (of_own c) (ap (λ z. is_below z n) seq ∙ lt-ltb k n lt)) (ap (λ (o : Option ℕ). has_size o 1996) is)

not_below : (c : Chunk) (id k : ℕ) → c.seq ≡ pos k → is_full_below id k c ≡ false
not_below c id k seq =
    let past : is_below c.seq k ≡ false = ap (λ z. is_below z k) seq ∙ grind arith in
    ap (λ b. b && has_size c.size 1996) (and_right (c.id == id) _ past)

-- a number that wasn't there is there once
once_next : (chunks : List Chunk) (c : Chunk) → count_by (is_numbered c.id c.seq) chunks ≡ 0 → ((k : ℕ) → count_by (is_numbered c.id (pos k)) chunks ≤ 1) → (k : ℕ) → count_by (is_numbered c.id (pos k)) (chunks ++ c ∷ []) ≤ 1
once_next chunks c none once k = go (int_eq c.seq (pos k)) refl
  where
    go : (b : Bool) → int_eq c.seq (pos k) ≡ b → count_by (is_numbered c.id (pos k)) (chunks ++ c ∷ []) ≤ 1
    go true e =
        let same : c.seq ≡ pos k = (Decides-int_eq c.seq (pos k)).0 e in
        let before : count_by (is_numbered c.id (pos k)) chunks ≡ 0 = ap (λ z. count_by (is_numbered c.id z) chunks) (sym same) ∙ none in
        omega (arith, before, count-push (is_numbered c.id (pos k)) chunks c, one-le (is_numbered c.id (pos k) c))
    go false e =
        let not_here : one (is_numbered c.id (pos k) c) ≡ 0 = ap one (and_right (c.id == c.id) _ e) in
        omega (arith, not_here, count-push (is_numbered c.id (pos k)) chunks c, once k)

pub first_fits : (chunks : List Chunk) (c : Chunk) (k size : ℕ) → count_by (is_of c.id) chunks ≡ 0 → c.seq ≡ pos k → c.size ≡ Some size → k < 2 ^ 31 → IsFit (chunks ++ c ∷ []) c.id 1 k size
first_fits chunks c k size none seq is limit =
    let of : one (is_of c.id c) ≡ 1 = ap one (of_own c) in
    let fit : one (is_fit c.id k size c) ≡ 1 = ap one (fit_own c c.id k size refl seq is) in
    let full : one (is_full_below c.id k c) ≡ 0 = ap one (not_below c c.id k seq) in
    record {
      counted = omega (arith, of, none, count-push (is_of c.id) chunks c);
      once = once_next chunks c (omega (arith, none, numbered-le c.id c.seq chunks)) (λ j. omega (arith, none, numbered-le c.id (pos j) chunks));
      ended = omega (arith, fit, none, count-push (is_fit c.id k size) chunks c, fit-le-numbered c.id k size chunks, numbered-le c.id (pos k) chunks);
      full = omega (arith, full, none, count-push (is_full_below c.id k) chunks c, full-le c.id k chunks);
      limit = limit;
    }

-- a full chunk below one number, or of it, is below a greater one
pair : (a b e b' h : Bool) → (b ≡ true → (e ≡ false) × (b' ≡ true)) → (e ≡ true → b' ≡ true) → one (a && b && h) + one (a && e && h) ≤ one (a && b' && h)
pair false b e b' h lower same = omega arith
pair true true true b' h lower same = absurd (true≢false (lower refl).0)
pair true true false true true lower same = omega arith
pair true true false true false lower same = omega arith
pair true true false false h lower same = absurd (false≢true (lower refl).1)
pair true false true true true lower same = omega arith
pair true false true true false lower same = omega arith
pair true false true false h lower same = absurd (false≢true (same refl))
pair true false false b' h lower same = omega arith

below_parts : (z : ℤ) (last k : ℕ) → last < k → is_below z last ≡ true → (int_eq z (pos last) ≡ false) × (is_below z k ≡ true)
below_parts (pos m) last k lt e =
    let lower = ltb-true m last e in
    (pos-differ m last (λ same. omega (arith, lower, same)), lt-ltb m k (omega (arith, lower, lt)))
below_parts (negsuc m) last k lt e = absurd (false≢true e)

full_pair : (id last k : ℕ) (c : Chunk) → last < k → one (is_full_below id last c) + one (is_fit id last 1996 c) ≤ one (is_full_below id k c)
full_pair id last k c lt =
    pair (c.id == id) (is_below c.seq last) (int_eq c.seq (pos last)) (is_below c.seq k) (has_size c.size 1996) (below_parts c.seq last k lt) (λ e. ap (λ z. is_below z k) ((Decides-int_eq c.seq (pos last)).0 e) ∙ lt-ltb last k lt)

-- a chunk of a greater number becomes the last, where the last so far is full
pub later_fits : (chunks : List Chunk) (c : Chunk) (count last k size : ℕ) → IsFit chunks c.id count last 1996 → c.seq ≡ pos k → c.size ≡ Some size → count_by (is_numbered c.id c.seq) chunks ≡ 0 → last < k → k < 2 ^ 31 → IsFit (chunks ++ c ∷ []) c.id (count + 1) k size
later_fits chunks c count last k size f seq is none lt limit =
    let of : one (is_of c.id c) ≡ 1 = ap one (of_own c) in
    let fit : one (is_fit c.id k size c) ≡ 1 = ap one (fit_own c c.id k size refl seq is) in
    let not_full : one (is_full_below c.id k c) ≡ 0 = ap one (not_below c c.id k seq) in
    let not_there : count_by (is_numbered c.id (pos k)) chunks ≡ 0 = ap (λ z. count_by (is_numbered c.id z) chunks) (sym seq) ∙ none in
    let lower = sum-pair (λ d. one (is_full_below c.id last d)) (λ d. one (is_fit c.id last 1996 d)) (λ d. one (is_full_below c.id k d)) (λ d. full_pair c.id last k d lt) chunks in
    record {
      counted = omega (arith, of, f.counted, count-push (is_of c.id) chunks c);
      once = once_next chunks c none f.once;
      ended = omega (arith, fit, not_there, count-push (is_fit c.id k size) chunks c, fit-le-numbered c.id k size chunks);
      full = omega (arith, not_full, lower, f.full, f.ended, f.counted, count-push (is_full_below c.id k) chunks c, full-le c.id k chunks);
      limit = limit;
    }

-- a number that isn't there, and not past the last, is lower than the last
pub lower_than_last : (chunks : List Chunk) (c : Chunk) (count last size k : ℕ) → IsFit chunks c.id count last size → c.seq ≡ pos k → count_by (is_numbered c.id c.seq) chunks ≡ 0 → k ≤ last → k < last
lower_than_last chunks c count last size k f seq none le =
    let some = last_numbered chunks c.id count last size f in
    elim (cases_eq k last) [
      | inl same ↦
          let here : count_by (is_numbered c.id (pos last)) chunks ≡ 0 = ap (λ z. count_by (is_numbered c.id z) chunks) (sym (seq ∙ ap pos same)) ∙ none in
          absurd (omega (arith, here, some))
      | inr other ↦ omega (arith, other, le)
    ]

-- a full chunk of a lower number is one of the others
pub earlier_fits : (chunks : List Chunk) (c : Chunk) (count last size k : ℕ) → IsFit chunks c.id count last size → c.seq ≡ pos k → c.size ≡ Some 1996 → count_by (is_numbered c.id c.seq) chunks ≡ 0 → k < last → IsFit (chunks ++ c ∷ []) c.id (count + 1) last size
earlier_fits chunks c count last size k f seq is none lt =
    let of : one (is_of c.id c) ≡ 1 = ap one (of_own c) in
    let full : one (is_full_below c.id last c) ≡ 1 = ap one (full_own c k last seq lt is) in
    let differ : int_eq c.seq (pos last) ≡ false = ap (λ z. int_eq z (pos last)) seq ∙ pos-differ k last (λ same. omega (arith, lt, same)) in
    let not_last : one (is_fit c.id last size c) ≡ 0 = ap (λ b. one (b && has_size c.size size)) (and_right (c.id == c.id) _ differ) in
    record {
      counted = omega (arith, of, f.counted, count-push (is_of c.id) chunks c);
      once = once_next chunks c none f.once;
      ended = omega (arith, not_last, f.ended, count-push (is_fit c.id last size) chunks c);
      full = omega (arith, full, f.full, count-push (is_full_below c.id last) chunks c);
      limit = f.limit;
    }

-- a chunk of another value changes nothing
stays : (p : Chunk → Bool) (chunks : List Chunk) (c : Chunk) (n : ℕ) → p c ≡ false → count_by p chunks ≡ n → count_by p (chunks ++ c ∷ []) ≡ n
stays p chunks c n e was = let none : one (p c) ≡ 0 = ap one e in omega (arith, none, was, count-push p chunks c)

pub other_stays : (chunks : List Chunk) (c : Chunk) (id : ℕ) (value : ValueChunks) → is_of id c ≡ false → Describes chunks id value → Describes (chunks ++ c ∷ []) id value
other_stays chunks c id Empty other none = stays (is_of id) chunks c 0 other none
other_stays chunks c id (Fit count last size) other f = record {
  counted = stays (is_of id) chunks c count other f.counted;
  once = λ k. let none : one (is_numbered id (pos k) c) ≡ 0 = ap (λ b. one (b && int_eq c.seq (pos k))) other in omega (arith, none, f.once k, count-push (is_numbered id (pos k)) chunks c);
  ended = stays (is_fit id last size) chunks c 1 (ap (λ b. b && int_eq c.seq (pos last) && has_size c.size size) other) f.ended;
  full = let none : one (is_full_below id last c) ≡ 0 = ap (λ b. one (b && is_below c.seq last && has_size c.size 1996)) other in omega (arith, none, f.full, count-push (is_full_below id last) chunks c);
  limit = f.limit;
}
other_stays chunks c id Unfit other never = λ more p e w.
    let P : List Chunk → Type 0 = λ xs. IsWhole xs p in never (c ∷ more) p e (subst P (append_assoc chunks (c ∷ []) more) w)
