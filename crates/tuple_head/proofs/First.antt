-- The first member of a list that passes a test, as the first broken one of a list of rules.
use Rattle.std.proofs.Common.{◌≡◌, Bool, true, false, List, [], ◌∷◌, None, Some, IfSome, refl, ◌∙◌}
use Rattle.std.specs.Prelude.{find}
use Rattle.std.specs.List.{AllByRecursion}
use Rattle.std.proofs.lemmas.Bool.{cond-false, cond_both}

-- there is none exactly where no member passes
pub none_passes : {X : Type 0} (test : X → Bool) (xs : List X) → find test xs ≡ None → AllByRecursion (λ x. test x ≡ false) xs
none_passes test [] e = tt
none_passes test (x ∷ xs) e =
    cond_both (test x) (Some x) (find test xs) (λ o. o ≡ None → (test x ≡ false) × AllByRecursion (λ y. test y ≡ false) xs)
    (λ passes e. absurd cc)
    (λ fails e. (fails, none_passes test xs e))
    e

pub find-none : {X : Type 0} (test : X → Bool) (xs : List X) → AllByRecursion (λ x. test x ≡ false) xs → find test xs ≡ None
find-none test [] fail = refl
find-none test (x ∷ xs) fail = cond-false (test x) (Some x) (find test xs) fail.0 ∙ find-none test xs fail.1

-- the first passes
pub first_passes : {X : Type 0} (test : X → Bool) (xs : List X) → IfSome (find test xs) (λ x. test x ≡ true)
first_passes test [] = tt
first_passes test (x ∷ xs) =
    cond_both (test x) (Some x) (find test xs) (λ o. IfSome o (λ y. test y ≡ true)) (λ passes. passes) (λ fails. first_passes test xs)
