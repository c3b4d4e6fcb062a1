-- Numbers that were sorted, without repeats: a rising list is known by its members.
use Rattle.std.proofs.Common.{◌≡◌, ◌≢◌, ◌∙◌, ◌<◌, ◌≤◌, ℕ, suc, inl, inr, Bool, true, false, List, [], ◌∷◌, refl, sym, subst, arith}
use Rattle.std.specs.Prelude.{All, AllPairs, Contains, cond, ◌==◌, ◌⊎◌, nat_eq}
use Rattle.std.specs.List.{dedup, dedup_from}
use Rattle.std.specs.List.Sorted.{IsSorted}
use Rattle.std.specs.Ordering.{nat_cmp}
use Rattle.std.proofs.lemmas.Bool.Decides.{nat_tests}
use Rattle.std.proofs.lemmas.List.Elements.{All-contains_itself, All-weaker}
use Rattle.std.proofs.lemmas.List.Kept.{AllPairs-cons}
use Rattle.std.proofs.lemmas.List.Sorted.{IsNonDecreasingBy-from_sort}
use Rattle.bt_steps.proofs.Members.{either-in, first-in, none-in, other-in}

abbrev Lower : ℕ → ℕ → Type 0
Lower x y = x < y

abbrev NotHigher : ℕ → ℕ → Type 0
NotHigher x y = x ≤ y

-- the first and the others
first-of : (R : ℕ → ℕ → Type 0) (x : ℕ) (xs : List ℕ) → AllPairs R (x ∷ xs) → (y : ℕ) → Contains xs y → R x y
first-of R x xs pairs y among = subst (R x) among.2 (pairs 0 (suc among.0) y (omega arith) (let lt = among.1 in omega (arith, lt)))

rest-of : (R : ℕ → ℕ → Type 0) (x : ℕ) (xs : List ℕ) → AllPairs R (x ∷ xs) → AllPairs R xs
rest-of R x xs pairs = λ i j d lt within. pairs (suc i) (suc j) d (omega (arith, lt)) (omega (arith, within))

all-in : (P : ℕ → Type 0) (xs : List ℕ) → ((x : ℕ) → Contains xs x → P x) → All P xs
all-in P xs each = All-weaker (Contains xs) P each xs (All-contains_itself xs)

no-pairs : (R : ℕ → ℕ → Type 0) → AllPairs R []
no-pairs R i j d lt within = absurd (omega (arith, within))

one-pair : (R : ℕ → ℕ → Type 0) (x : ℕ) → AllPairs R (x ∷ [])
one-pair R x i j d lt within = absurd (omega (arith, lt, within))

-- two rising lists with the same members are one
pub same-members : (xs ys : List ℕ) → AllPairs Lower xs → AllPairs Lower ys → ((n : ℕ) → Contains xs n → Contains ys n) → ((n : ℕ) → Contains ys n → Contains xs n) → xs ≡ ys
same-members [] [] a b there back = refl
same-members [] (y ∷ ys) a b there back = absurd (none-in y [] refl (back y (first-in y ys)))
same-members (x ∷ xs) [] a b there back = absurd (none-in x [] refl (there x (first-in x xs)))
same-members (x ∷ xs) (y ∷ ys) a b there back = go (λ over under. same-members xs ys (rest-of Lower x xs a) (rest-of Lower y ys b) over under) (either-in y x ys (there x (first-in x xs))) (either-in x y xs (back y (first-in y ys)))
  where
    over : x ≡ y → (n : ℕ) → Contains xs n → Contains ys n
    over same n among = elim (either-in y n ys (there n (other-in x n xs among))) [
      | inl is ↦ absurd (let lt = first-of Lower x xs a n among in omega (arith, lt, is, same))
      | inr k ↦ k
    ]

    under : x ≡ y → (n : ℕ) → Contains ys n → Contains xs n
    under same n among = elim (either-in x n xs (back n (other-in y n ys among))) [
      | inl is ↦ absurd (let lt = first-of Lower y ys b n among in omega (arith, lt, is, same))
      | inr k ↦ k
    ]

    ends : (((n : ℕ) → Contains xs n → Contains ys n) → ((n : ℕ) → Contains ys n → Contains xs n) → xs ≡ ys) → x ≡ y → x ∷ xs ≡ y ∷ ys
    ends rest same = (λ i. same i ∷ rest (over same) (under same) i)

    go : (((n : ℕ) → Contains xs n → Contains ys n) → ((n : ℕ) → Contains ys n → Contains xs n) → xs ≡ ys) → (y ≡ x) ⊎ Contains ys x → (x ≡ y) ⊎ Contains xs y → x ∷ xs ≡ y ∷ ys
    go rest (inl e) other = ends rest (sym e)
    go rest (inr k) (inl e) = ends rest e
    go rest (inr k) (inr l) = absurd (let up = first-of Lower y ys b x k in let down = first-of Lower x xs a y l in omega (arith, up, down))

-- Sorted numbers

pub from-sort : (xs : List ℕ) → IsSorted nat_cmp xs → AllPairs NotHigher xs
from-sort xs sorted = λ i j d lt within. IsNonDecreasingBy-from_sort (λ (x : ℕ). x) xs sorted i j d (omega (arith, lt)) within

equal-is : (x k : ℕ) → (x == k) ≡ true → x ≡ k
equal-is x k is = grind (arith, nat_tests, is)

other-is : (x k : ℕ) → (x == k) ≡ false → x ≢ k
other-is x k is = λ e. absurd (grind (arith, nat_tests, is, e))

-- the members stay
from-dedup : (k : ℕ) (xs : List ℕ) (n : ℕ) → Contains (dedup_from nat_eq k xs) n → Contains (k ∷ xs) n
from-dedup k [] n among = among
from-dedup k (x ∷ xs) n among = go (x == k) refl among (λ h. from-dedup k xs n h) (λ h. from-dedup x xs n h)
  where
    go : (b : Bool) → (x == k) ≡ b → Contains (cond b (dedup_from nat_eq k xs) (k ∷ dedup_from nat_eq x xs)) n → (Contains (dedup_from nat_eq k xs) n → Contains (k ∷ xs) n) → (Contains (dedup_from nat_eq x xs) n → Contains (x ∷ xs) n) → Contains (k ∷ x ∷ xs) n
    go true is h again other = elim (either-in k n xs (again h)) [
      | inl e ↦ subst (Contains (k ∷ x ∷ xs)) e (first-in k (x ∷ xs))
      | inr l ↦ other-in k n (x ∷ xs) (other-in x n xs l)
    ]
    go false is h again other = elim (either-in k n (dedup_from nat_eq x xs) h) [
      | inl e ↦ subst (Contains (k ∷ x ∷ xs)) e (first-in k (x ∷ xs))
      | inr l ↦ other-in k n (x ∷ xs) (other l)
    ]

in-dedup : (k : ℕ) (xs : List ℕ) (n : ℕ) → Contains (k ∷ xs) n → Contains (dedup_from nat_eq k xs) n
in-dedup k [] n among = among
in-dedup k (x ∷ xs) n among = go (x == k) refl (either-in k n (x ∷ xs) among) (λ h. in-dedup k xs n h) (λ h. in-dedup x xs n h)
  where
    go : (b : Bool) → (x == k) ≡ b → (k ≡ n) ⊎ Contains (x ∷ xs) n → (Contains (k ∷ xs) n → Contains (dedup_from nat_eq k xs) n) → (Contains (x ∷ xs) n → Contains (dedup_from nat_eq x xs) n) → Contains (cond b (dedup_from nat_eq k xs) (k ∷ dedup_from nat_eq x xs)) n
    go true is (inl e) again other = again (subst (Contains (k ∷ xs)) e (first-in k xs))
    go true is (inr l) again other = elim (either-in x n xs l) [
      | inl e ↦ again (subst (Contains (k ∷ xs)) (sym (equal-is x k is) ∙ e) (first-in k xs))
      | inr m ↦ again (other-in k n xs m)
    ]
    go false is (inl e) again other = subst (Contains (k ∷ dedup_from nat_eq x xs)) e (first-in k (dedup_from nat_eq x xs))
    go false is (inr l) again other = other-in k n (dedup_from nat_eq x xs) (other l)

dedup-rises : (k : ℕ) (xs : List ℕ) → ((x : ℕ) → Contains xs x → k ≤ x) → AllPairs NotHigher xs → AllPairs Lower (dedup_from nat_eq k xs)
dedup-rises k [] low pairs = one-pair Lower k
dedup-rises k (x ∷ xs) low pairs = go (x == k) refl (λ l. dedup-rises k xs l (rest-of NotHigher x xs pairs)) (dedup-rises x xs (λ y among. first-of NotHigher x xs pairs y among) (rest-of NotHigher x xs pairs))
  where
    go : (b : Bool) → (x == k) ≡ b → (((y : ℕ) → Contains xs y → k ≤ y) → AllPairs Lower (dedup_from nat_eq k xs)) → AllPairs Lower (dedup_from nat_eq x xs) → AllPairs Lower (cond b (dedup_from nat_eq k xs) (k ∷ dedup_from nat_eq x xs))
    go true is again other = again (λ y among. low y (other-in x y xs among))
    go false is again other =
        AllPairs-cons Lower k (dedup_from nat_eq x xs)
        (all-in (Lower k) (dedup_from nat_eq x xs) (λ n among.
        let ne = other-is x k is in
        let kx = low x (first-in x xs) in
        elim (either-in x n xs (from-dedup x xs n among)) [
          | inl e ↦ omega (arith, ne, kx, e)
          | inr l ↦ let xn = first-of NotHigher x xs pairs n l in omega (arith, ne, kx, xn)
        ]))
        other

pub deduped-rise : (xs : List ℕ) → AllPairs NotHigher xs → AllPairs Lower (dedup nat_eq xs)
deduped-rise [] pairs = no-pairs Lower
deduped-rise (x ∷ xs) pairs = dedup-rises x xs (λ y among. first-of NotHigher x xs pairs y among) (rest-of NotHigher x xs pairs)

pub deduped-from : (xs : List ℕ) (n : ℕ) → Contains (dedup nat_eq xs) n → Contains xs n
deduped-from [] n among = among
deduped-from (x ∷ xs) n among = from-dedup x xs n among

pub deduped-in : (xs : List ℕ) (n : ℕ) → Contains xs n → Contains (dedup nat_eq xs) n
deduped-in [] n among = among
deduped-in (x ∷ xs) n among = in-dedup x xs n among
