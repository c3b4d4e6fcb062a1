-- The members of lists that are made of others.
use Rattle.std.proofs.Common.{◌≡◌, ◌<◌, ◌≤◌, ◌+◌, ◌-◌, ℕ, zero, suc, ◌⊎◌, inl, inr, List, [], ◌∷◌, refl, sym, subst, arith}
use Rattle.std.specs.Prelude.{Contains, Some, get_or, map, slice_get}
use Rattle.std.specs.List.{flat_map}
use Rattle.std.proofs.lemmas.Bool.{cases_eq}
use Rattle.std.proofs.lemmas.List.Elements.{Contains-append_cases, Contains-append_left, Contains-append_right}
use Rattle.std.proofs.lemmas.Option.{get_or_from_slice_get, slice_get_within}
use Rattle.page_layout.specs.Page.{count_of}
use Rattle.bt_image.specs.Image.{data_items, first_data, numbers_from}
use Rattle.bt_image.specs.Pages.{IsDataItem}

pub none-in : {X : Type 0} (x : X) (xs : List X) → xs ≡ [] → Contains xs x → ⊥
none-in x [] e h = let lt = h.1 in omega (arith, lt)
none-in x (y ∷ ys) e h = absurd cc

pub first-in : {X : Type 0} (x : X) (xs : List X) → Contains (x ∷ xs) x
first-in x xs = (0, omega arith, refl)

pub other-in : {X : Type 0} (x y : X) (xs : List X) → Contains xs y → Contains (x ∷ xs) y
other-in x y xs h = Contains-append_right (x ∷ []) xs y h

one-is : {X : Type 0} (x y : X) → Contains (x ∷ []) y → x ≡ y
one-is {X} x y h = go h.0 h.1 h.2
  where
    go : (k : ℕ) → k < 1 → get_or (x ∷ []) k y ≡ y → x ≡ y
    go zero lt e = e
    go (suc k) lt e = absurd (omega (arith, lt))

pub either-in : {X : Type 0} (x y : X) (xs : List X) → Contains (x ∷ xs) y → (x ≡ y) ⊎ Contains xs y
either-in x y xs h = elim (Contains-append_cases (x ∷ []) xs y h) [
  | inl a ↦ inl (one-is x y a)
  | inr b ↦ inr b
]

-- what stands at a place
pub in-place : {X : Type 0} (xs : List X) (k : ℕ) (x : X) → slice_get xs k ≡ Some x → Contains xs x
in-place xs k x e = (k, slice_get_within xs k x e, get_or_from_slice_get xs k x x e)

-- what is mapped
pub in-map : {X Y : Type 0} (f : X → Y) (xs : List X) (x : X) → Contains xs x → Contains (map f xs) (f x)
in-map f [] x h = absurd (none-in x [] refl h)
in-map {X} {Y} f (z ∷ zs) x h = elim (either-in z x zs h) [
  | inl e ↦ subst (λ (w : X). Contains (map f (z ∷ zs)) (f w)) e (first-in (f z) (map f zs))
  | inr k ↦ other-in (f z) (f x) (map f zs) (in-map f zs x k)
]

pub from-map : {X Y : Type 0} (f : X → Y) (xs : List X) (y : Y) → Contains (map f xs) y → (x : X) × Contains xs x × (f x ≡ y)
from-map f [] y h = absurd (none-in y [] refl h)
from-map f (x ∷ xs) y h = elim (either-in (f x) y (map f xs) h) [
  | inl e ↦ (x, first-in x xs, e)
  | inr k ↦ (let rest = from-map f xs y k in (rest.0, other-in x rest.0 xs rest.1, rest.2))
]

-- what the members of a list give
pub in-flat_map : {X Y : Type 0} (f : X → List Y) (xs : List X) (x : X) (y : Y) → Contains xs x → Contains (f x) y → Contains (flat_map f xs) y
in-flat_map f [] x y h there = absurd (none-in x [] refl h)
in-flat_map {X} {Y} f (z ∷ zs) x y h there = elim (either-in z x zs h) [
  | inl e ↦ Contains-append_left (f z) (flat_map f zs) y (subst (λ (w : X). Contains (f w) y) (sym e) there)
  | inr k ↦ Contains-append_right (f z) (flat_map f zs) y (in-flat_map f zs x y k there)
]

-- numbers in a row
in-numbers : (i n k : ℕ) → i ≤ k → k < i + n → Contains (numbers_from i n) k
in-numbers i zero k from to = absurd (omega (arith, from, to))
in-numbers i (suc n) k from to = elim (cases_eq i k) [
  | inl e ↦ subst (λ (j : ℕ). Contains (i ∷ numbers_from (suc i) n) j) e (first-in i (numbers_from (suc i) n))
  | inr ne ↦ other-in i k (numbers_from (suc i) n) (in-numbers (suc i) n k (omega (arith, from, ne)) (omega (arith, to)))
]

from-numbers : (i n k : ℕ) → Contains (numbers_from i n) k → (i ≤ k) × (k < i + n)
from-numbers i zero k h = absurd (none-in k [] refl h)
from-numbers i (suc n) k h = elim (either-in i k (numbers_from (suc i) n) h) [
  | inl e ↦ (omega (arith, e), omega (arith, e))
  | inr r ↦ (let rest = from-numbers (suc i) n k r in let a = rest.0 in let b = rest.1 in (omega (arith, a), omega (arith, b)))
]

pub in-data_items : (page : List ℕ) (i : ℕ) → first_data page ≤ i → i ≤ count_of page → Contains (data_items page) i
in-data_items page i from to = in-numbers (first_data page) (count_of page + 1 - first_data page) i from (omega (arith, from, to))

pub from-data_items : (page : List ℕ) (i : ℕ) → Contains (data_items page) i → IsDataItem page i
from-data_items page i h =
    let parts = from-numbers (first_data page) (count_of page + 1 - first_data page) i h in
    let from = parts.0 in
    let to = parts.1 in
    record { from = from; to = omega (arith, from, to) }
