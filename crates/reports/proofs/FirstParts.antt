-- The first part of a list that grows.
use Rattle.std.proofs.Common.{ℕ, zero, suc, ◌≡◌, ◌≤◌, ◌+◌, ◌-◌, List, [], ◌∷◌, ◌++◌, length, take, refl, sym, ap, ◌∙◌, arith}
use Rattle.std.proofs.Math.Seq.{take-append-add}
use Rattle.std.proofs.lemmas.List.{length-take, take-append-le, take-take}
use Rattle.reports.specs.LongLists.{first_part}
use Rattle.reports.specs.Texts.{verdict_of}
use Rattle.reports.specs.declared.places.Finding.{Finding}
use Rattle.reports.specs.declared.places.UnjudgedPlace.{UnjudgedPlace}

take-append_first : {T : Type 0} → (n : ℕ) (xs ys : List T) → take n (take n xs ++ ys) ≡ take n (xs ++ ys)
take-append_first zero xs ys = refl
take-append_first (suc n) [] ys = refl
take-append_first (suc n) (x ∷ xs) ys = ap (λ l. x ∷ l) (take-append_first n xs ys)

take-append_second : {T : Type 0} → (n m : ℕ) (xs ys : List T) → n ≤ m → take n (xs ++ take m ys) ≡ take n (xs ++ ys)
take-append_second n m [] ys le = take-take n m ys le
take-append_second zero m (x ∷ xs) ys le = refl
take-append_second (suc n) m (x ∷ xs) ys le = ap (λ l. x ∷ l) (take-append_second n m xs ys (omega (arith, le)))

take-whole : {T : Type 0} → (n : ℕ) (xs ys : List T) → length xs ≤ n → xs ++ take (n - length xs) ys ≡ take n (xs ++ ys)
take-whole n xs ys le =
    let e : length xs + (n - length xs) ≡ n = omega (arith, le) in
    sym (take-append-add xs ys (n - length xs)) ∙ ap (λ k. take k (xs ++ ys)) e

-- of a list that is put after a first part, or after the whole
pub first_part-more : {T : Type 0} → (xs ys : List T) → first_part (first_part xs ++ ys) ≡ first_part (xs ++ ys)
unfolding first_part
first_part-more xs ys = take-append_first 1000 xs ys

-- of two first parts, or of two lists
pub first_part-both : {T : Type 0} → (xs ys : List T) → first_part (first_part xs ++ first_part ys) ≡ first_part (xs ++ ys)
unfolding first_part
first_part-both xs ys = take-append_first 1000 xs (take 1000 ys) ∙ take-append_second 1000 1000 xs ys (omega arith)

-- what there is room for
pub first_part-room : {T : Type 0} → (xs ys : List T) → length xs ≤ 1000 → xs ++ take (1000 - length xs) ys ≡ first_part (xs ++ ys)
unfolding first_part
first_part-room xs ys le = take-whole 1000 xs ys le

-- where there is room for none
pub first_part-full : {T : Type 0} → (xs ys : List T) → length xs ≡ 1000 → xs ≡ first_part (xs ++ ys)
unfolding first_part
first_part-full xs ys full = sym (take-append-le 1000 xs ys (omega (arith, full)) ∙ take-of-all 1000 xs full)
  where
    take-of-all : {T : Type 0} → (n : ℕ) (zs : List T) → length zs ≡ n → take n zs ≡ zs
    take-of-all n [] e = grind (arith, e)
    take-of-all zero (z ∷ zs) e = absurd (omega (arith, e))
    take-of-all (suc n) (z ∷ zs) e = ap (λ l. z ∷ l) (take-of-all n zs (omega (arith, e)))

pub length-first_part : {T : Type 0} → (xs : List T) → length (first_part xs) ≤ 1000
unfolding first_part
length-first_part xs = omega (arith, length-take 1000 xs)

pub first_part-none : {T : Type 0} → first_part {T = T} [] ≡ []
unfolding first_part
first_part-none = refl

-- the verdict hangs on the first parts alone
pub verdict_by_first_part : (fs : List Finding) (us : List UnjudgedPlace) → verdict_of (first_part fs) (first_part us) ≡ verdict_of fs us
unfolding first_part verdict_of
verdict_by_first_part (f ∷ fs) us = refl
verdict_by_first_part [] (u ∷ us) = refl
verdict_by_first_part [] [] = refl
