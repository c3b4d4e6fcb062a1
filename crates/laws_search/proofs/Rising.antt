-- Rising lists of entries, and where they stand between separators.
use Rattle.std.proofs.Common.{◌≡◌, ℕ, zero, suc, ◌+◌, ◌<◌, inl, inr, true, List, [], ◌∷◌, ◌++◌, length, refl, sym, subst, arith}
use Rattle.std.specs.Prelude.{⊤, Option, Some, None, slice_index_or}
use Rattle.std.specs.List.{AllAdjacentBelow}
use Rattle.std.proofs.lemmas.Bool.{cases_Bool}
use Rattle.laws_search.specs.Order.{Order, IsOrder}
use Rattle.laws_search.specs.Searchable.{IfFirst, IfLast, EntryAbove}
use Rattle.laws_search.proofs.Lists.{In, Each, Each-map, Each-append, Each-back}
use Rattle.laws_search.proofs.Rows.{last_rest}

-- each member is below each later one
abbrev pub Rising : {S E : Type 0} → Order S E → List E → Type 0
Rising o [] = ⊤
Rising o (e ∷ es) = Each (λ d. o.precedes e d ≡ true) es × Rising o es

pub Rising-append : {S E : Type 0} (o : Order S E) (xs ys : List E) → Rising o xs → Rising o ys → ((d e : E) → In d xs → In e ys → o.precedes d e ≡ true) → Rising o (xs ++ ys)
Rising-append o [] ys a b h = b
Rising-append {S} {E} o (x ∷ xs) ys a b h =
    (Each-append (λ d. o.precedes x d ≡ true) xs ys a.0 (each ys (λ e k. h x e (inl refl) k)), Rising-append o xs ys a.1 b (λ d e i j. h d e (inr i) j))
  where
    each : (zs : List E) → ((e : E) → In e zs → o.precedes x e ≡ true) → Each (λ d. o.precedes x d ≡ true) zs
    each [] h = tt
    each (z ∷ zs) h = (h z (inl refl), each zs (λ e k. h e (inr k)))

pub rising_across : {S E : Type 0} (o : Order S E) (xs ys : List E) (d : E) → Rising o (xs ++ ys) → In d xs → Each (λ e. o.precedes d e ≡ true) ys
rising_across o [] ys d r h = absurd h
rising_across {S} {E} o (x ∷ xs) ys d r h = elim h [
  | inl e ↦ subst (λ z. Each (λ e. o.precedes z e ≡ true) ys) (sym e) (Each-back (λ d. o.precedes x d ≡ true) xs ys r.0)
  | inr k ↦ rising_across o xs ys d r.1 k
]

-- a rising list by its neighbours
adjacent_rest : {E : Type 0} (R : E → E → Type 0) (e : E) (es : List E) → AllAdjacentBelow R (e ∷ es) (length (e ∷ es)) → AllAdjacentBelow R es (length es)
adjacent_rest R e es h = λ k d l.
    let to : suc k + 1 ≡ suc (k + 1) = omega arith in
    subst (λ m. R (slice_index_or (e ∷ es) (suc k) d) (slice_index_or (e ∷ es) m d)) to (h (suc k) d (omega arith))

pub rising_from_adjacent : {S E : Type 0} (o : Order S E) → IsOrder o → (es : List E) → AllAdjacentBelow (λ d e. o.precedes d e ≡ true) es (length es) → Rising o es
rising_from_adjacent o laws [] h = tt
rising_from_adjacent o laws (e ∷ []) h = (tt, tt)
rising_from_adjacent o laws (e ∷ d ∷ es) h =
    let rest = rising_from_adjacent o laws (d ∷ es) (adjacent_rest (λ d e. o.precedes d e ≡ true) e (d ∷ es) h) in
    let first : o.precedes e d ≡ true = h 0 e (omega arith) in
    ((first, Each-map _ _ es (λ c k. laws.chained e d c first k) rest.0), rest)

pub adjacent_from_rising : {S E : Type 0} (o : Order S E) (es : List E) → Rising o es → AllAdjacentBelow (λ d e. o.precedes d e ≡ true) es (length es)
adjacent_from_rising o [] r = λ k d l. absurd (omega arith)
adjacent_from_rising o (e ∷ []) r = λ k d l. absurd (omega arith)
adjacent_from_rising {S} {E} o (e ∷ f ∷ es) r = go (adjacent_from_rising o (f ∷ es) r.1)
  where
    go : AllAdjacentBelow (λ d e. o.precedes d e ≡ true) (f ∷ es) (length (f ∷ es)) → (k : ℕ) (d : E) → k + 1 < length (e ∷ f ∷ es) → o.precedes (slice_index_or (e ∷ f ∷ es) k d) (slice_index_or (e ∷ f ∷ es) (k + 1) d) ≡ true
    go rest zero d l = r.0.0
    go rest (suc k) d l =
        let to : suc (k + 1) ≡ suc k + 1 = omega arith in
        subst (λ m. o.precedes (slice_index_or (e ∷ f ∷ es) (suc k) d) (slice_index_or (e ∷ f ∷ es) m d) ≡ true) to (rest k d (omega arith))

-- if the first is above the bound, each is
pub each_above : {S E : Type 0} (o : Order S E) → IsOrder o → (lo : Option S) (es : List E) → Rising o es → IfFirst es (EntryAbove o lo) → Each (EntryAbove o lo) es
each_above o laws lo [] r h = tt
each_above o laws lo (e ∷ es) r h = (h e refl, Each-map (λ d. o.precedes e d ≡ true) (EntryAbove o lo) es (λ d k. up lo e d k (h e refl)) r.0)
  where
    up : (lo : Option _) (e d : _) → o.precedes e d ≡ true → EntryAbove o lo e → EntryAbove o lo d
    up None e d k a = tt
    up (Some s) e d k a = elim (cases_Bool (o.within d s)) [ inl w ↦ absurd (let b = laws.lower e d s k w in grind arith) | inr w ↦ w ]

-- if the last is at or below the separator, each is
pub each_within : {S E : Type 0} (o : Order S E) → IsOrder o → (s : S) (es : List E) → Rising o es → IfLast es (λ e. o.within e s ≡ true) → Each (λ e. o.within e s ≡ true) es
each_within o laws s [] r h = tt
each_within o laws s (e ∷ []) r h = (h e refl, tt)
each_within o laws s (e ∷ d ∷ es) r h =
    let rest = each_within o laws s (d ∷ es) r.1 (last_rest (λ e. o.within e s ≡ true) e (d ∷ es) h) in
    (laws.lower e d s r.0.0 rest.0, rest)
