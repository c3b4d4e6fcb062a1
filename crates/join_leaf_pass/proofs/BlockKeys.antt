-- The entries of one block more, and those of all.
use Rattle.std.proofs.Common.{◌≡◌, ◌∙◌, ℕ, zero, suc, ◌+◌, ◌-◌, List, [], ◌∷◌, ◌++◌, refl, ap, arith, add-one, append-nil}
use Rattle.std.specs.List.{flat_map}
use Rattle.std.proofs.lemmas.Grind.{flat_map-append}
use Rattle.laws_search.specs.Search.{tree_blocks}

one-more : (k : ℕ) → tree_blocks (k + 1 + 1) ≡ tree_blocks (k + 1) ++ (k + 1) ∷ []
one-more k = rw (add-one, add-one) refl

pub blocks-next : {X : Type 0} (f : ℕ → List X) (k : ℕ) → flat_map f (tree_blocks (k + 1 + 1)) ≡ flat_map f (tree_blocks (k + 1)) ++ f (k + 1)
blocks-next {X} f k =
    ap (flat_map f) (one-more k)
    ∙ flat_map-append f (tree_blocks (k + 1)) ((k + 1) ∷ [])
    ∙ ap (λ (l : List X). flat_map f (tree_blocks (k + 1)) ++ l) (append-nil (f (k + 1)))

pub all-blocks : (k n : ℕ) → k ≡ n - 1 → tree_blocks (k + 1) ≡ tree_blocks n
all-blocks k zero is =
    let none : k ≡ 0 = omega (arith, is) in
    ap (λ (m : ℕ). tree_blocks (m + 1)) none
all-blocks k (suc n) is =
    let next : k + 1 ≡ suc n = omega (arith, is) in
    ap tree_blocks next
