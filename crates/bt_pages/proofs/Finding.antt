-- The first of a list that passes a test, and what is found at a place.
use Rattle.std.proofs.Common.{◌≡◌, Bool, true, false, cond, List, [], ◌∷◌, zero, suc, refl, subst, arith}
use Rattle.std.specs.Prelude.{Contains, find, Option, Some, None}
use Rattle.std.proofs.lemmas.List.Elements.{Contains-append_right}

pub record IsFound {X : Type 0} (p : X → Bool) (xs : List X) (x : X) : Type 0 where
  pub passes : p x ≡ true
  pub among : Contains xs x

among_first : {X : Type 0} (x : X) (xs : List X) → Contains (x ∷ xs) x
among_first x xs = (0, omega arith, refl)

pub among_one : {X : Type 0} (x : X) → Contains (x ∷ []) x
among_one x = among_first x []

among_rest : {X : Type 0} (y x : X) (xs : List X) → Contains xs x → Contains (y ∷ xs) x
among_rest y x xs has = Contains-append_right (y ∷ []) xs x has

-- what is found passes, and is among them
found_by : {X : Type 0} (p : X → Bool) (y : X) (xs : List X) (x : X) (t : Bool) → p y ≡ t → cond t (Some y) (find p xs) ≡ Some x
    → ((find p xs ≡ Some x) → IsFound p xs x) → IsFound p (y ∷ xs) x
found_by {X = X} p y xs x true e is later =
    let same : y ≡ x = cc in
    subst (λ (z : X). IsFound p (y ∷ xs) z) same (record { passes = e; among = among_first y xs })
found_by p y xs x false e is later =
    let then = later is in record { passes = then.passes; among = among_rest y x xs then.among }

pub find-some : {X : Type 0} (p : X → Bool) (xs : List X) (x : X) → find p xs ≡ Some x → IsFound p xs x
find-some p [] x is = absurd cc
find-some p (y ∷ xs) x is = found_by p y xs x (p y) refl is (find-some p xs x)

-- where none is found, none passes
none_by : {X : Type 0} (p : X → Bool) (y : X) (t : Bool) (o : Option X) → p y ≡ t → cond t (Some y) o ≡ None → (p y ≡ false) × (o ≡ None)
none_by p y true o e is = absurd cc
none_by p y false o e is = (e, is)

pub find-none : {X : Type 0} (p : X → Bool) (xs : List X) (x : X) → find p xs ≡ None → Contains xs x → p x ≡ false
find-none p [] x is has = absurd (omega (arith, has.1))
find-none {X = X} p (y ∷ xs) x is (zero, inside, at) = subst (λ (z : X). p z ≡ false) at (none_by p y (p y) (find p xs) refl is).0
find-none p (y ∷ xs) x is (suc k, inside, at) = find-none p xs x (none_by p y (p y) (find p xs) refl is).1 (k, omega (arith, inside), at)
