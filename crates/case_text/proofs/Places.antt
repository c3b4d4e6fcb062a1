-- Where a list has the first element that passes a test.
use Rattle.std.proofs.Common.{◌≡◌, ℕ, ◌+◌, ◌<◌, List, [], ◌∷◌, length, map, Bool, true, not, cond, nat_lt, Option, Some, None, refl, ap}
use Rattle.std.proofs.Common.{inl, inr}
use Rattle.std.proofs.lemmas.Bool.{cases_Bool, eqb-true, false≢true, ltb-true}
use Rattle.std.proofs.lemmas.List.{length-map}
use Rattle.std.proofs.lemmas.Option.{none-some}
use Rattle.std.specs.List.{position, position_or_len}
use Rattle.case_text.specs.Told.{is_at}

place_or_length : {A B : Type 0} (f : A → B) (test : B → Bool) (same : A → Bool) (xs : List A) → ((x : A) → test (f x) ≡ same x)
    → position_or_len test (map f xs) ≡ position_or_len same xs
place_or_length f test same [] agree = refl
place_or_length f test same (x ∷ xs) agree =
    λ i. cond (not (agree x i)) (1 + place_or_length f test same xs agree i) 0

-- a test of what f gives, and one that agrees with it
pub same_place : {A B : Type 0} (f : A → B) (test : B → Bool) (same : A → Bool) (xs : List A) → ((x : A) → test (f x) ≡ same x)
    → position test (map f xs) ≡ position same xs
same_place f test same xs agree = rw (place_or_length f test same xs agree, length-map xs f) refl

pub is_there : (o : Option ℕ) (k : ℕ) → is_at o k ≡ true → o ≡ Some k
is_there (Some n) k h = ap Some (eqb-true n k h)
is_there None k h = absurd (false≢true h)

place_below : (n len k : ℕ) → cond (nat_lt n len) (Some n) None ≡ Some k → k < len
place_below n len k is =
    elim (cases_Bool (nat_lt n len)) [
      | inl below ↦
          let same : Some n ≡ Some k = rw below at is in
          let here : n ≡ k = some_same n k same in
          rw here at (ltb-true n len below)
      | inr past ↦ absurd (none-some k (rw past at is))
    ]
  where
    or_n : ℕ → Option ℕ → ℕ
    or_n n (Some m) = m
    or_n n None = n

    some_same : (n k : ℕ) → Some n ≡ Some k → n ≡ k
    some_same n k same = ap (or_n n) same

pub below_length : {A : Type 0} (test : A → Bool) (xs : List A) (k : ℕ) → position test xs ≡ Some k → k < length xs
below_length test xs k is = place_below (position_or_len test xs) (length xs) k is
