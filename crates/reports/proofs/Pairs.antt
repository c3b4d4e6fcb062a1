-- What holds of each two members of a list that places or items give, one after the other.
use Rattle.std.proofs.Common.{◌≡◌, ℕ, zero, suc, ◌<◌, ◌≤◌, List, [], ◌∷◌, ◌++◌, get_or, refl, sym, subst, arith}
use Rattle.std.specs.Prelude.{AllPairs, Contains}
use Rattle.std.proofs.lemmas.List.Elements.{All-append, All-contains, All-contains_itself, All-weaker, Contains-get_or}
use Rattle.std.proofs.lemmas.List.Kept.{AllPairs-cons}
use Rattle.outside.specs.Adds.{Joins, each_below}
use Rattle.reports.proofs.Parts.{All-below, All-upto}
use Rattle.reports.specs.Added.{each_upto}

module _ {X : Type 0} (R : X → X → Type 0) where
  pub pairs-none : AllPairs R []
  pairs-none i j d lt within = absurd (omega (arith, within))

  pub pairs-one : (x : X) → AllPairs R (x ∷ [])
  pairs-one x i j d lt within = absurd (omega (arith, lt, within))

  pub pairs-append : (xs ys : List X) → AllPairs R xs → AllPairs R ys → ((x y : X) → Contains xs x → Contains ys y → R x y) → AllPairs R (xs ++ ys)
  pairs-append [] ys first second across = second
  pairs-append (x ∷ xs) ys first second across =
      AllPairs-cons R x (xs ++ ys)
      (All-append (R x) xs ys
      (λ k d lt. first 0 (suc k) d (omega arith) (omega arith))
      (λ k d lt. across x (get_or ys k d) (0, omega arith, refl) (Contains-get_or ys k d lt)))
      (pairs-append xs ys (λ i j d lt within. first (suc i) (suc j) d (omega arith) (omega arith)) second
      (λ y z among there. across y z (suc among.0, omega (arith, among.1), among.2) there))

-- `part` gives one list of a record, and joins as the records do
module _ {L X : Type 0} (lists : Joins L) (part : L → List X) (none : part lists.none ≡ []) (join : (a b : L) → part (lists.join a b) ≡ part a ++ part b) (R : X → X → Type 0) where
  -- what the places before n give, each by itself and each two
  pub pairs-below : (f : ℕ → L) (n : ℕ) → ((k : ℕ) → k < n → AllPairs R (part (f k))) → ((j k : ℕ) (x y : X) → j < k → k < n → Contains (part (f j)) x → Contains (part (f k)) y → R x y) → AllPairs R (part (each_below lists f n))
  unfolding each_below
  pairs-below f zero own across = subst (AllPairs R) (sym none) (pairs-none R)
  pairs-below f (suc n) own across =
      subst (AllPairs R) (sym (join (each_below lists f n) (f n)))
      (pairs-append R (part (each_below lists f n)) (part (f n))
      (pairs-below f n (λ k lt. own k (omega arith)) (λ j k x y lt within among there. across j k x y lt (omega arith) among there))
      (own n (omega arith))
      (λ x y among there.
      let at = All-contains (λ z. (k : ℕ) × (k < n) × Contains (part (f k)) z) (part (each_below lists f n)) x
      (All-below lists part none join (λ z. (k : ℕ) × (k < n) × Contains (part (f k)) z) f n
      (λ k lt. All-weaker (Contains (part (f k))) (λ z. (k : ℕ) × (k < n) × Contains (part (f k)) z) (λ z has. (k, lt, has)) (part (f k)) (All-contains_itself (part (f k))))) among in
      across at.0 n x y at.1 (omega arith) at.2 there))

  pub pairs-upto : (f : ℕ → L) (n : ℕ) → ((i : ℕ) → 1 ≤ i → i ≤ n → AllPairs R (part (f i))) → ((i j : ℕ) (x y : X) → i < j → Contains (part (f i)) x → Contains (part (f j)) y → R x y) → AllPairs R (part (each_upto lists f n))
  unfolding each_upto
  pairs-upto f zero own across = subst (AllPairs R) (sym none) (pairs-none R)
  pairs-upto f (suc n) own across =
      subst (AllPairs R) (sym (join (each_upto lists f n) (f (suc n))))
      (pairs-append R (part (each_upto lists f n)) (part (f (suc n)))
      (pairs-upto f n (λ i first last. own i first (omega arith)) across)
      (own (suc n) (omega arith) (omega arith))
      (λ x y among there.
      let at = All-contains (λ z. (i : ℕ) × (i ≤ n) × Contains (part (f i)) z) (part (each_upto lists f n)) x
      (All-upto lists part none join (λ z. (i : ℕ) × (i ≤ n) × Contains (part (f i)) z) f n
      (λ i first last. All-weaker (Contains (part (f i))) (λ z. (i : ℕ) × (i ≤ n) × Contains (part (f i)) z) (λ z has. (i, last, has)) (part (f i)) (All-contains_itself (part (f i))))) among in
      across at.0 (suc n) x y (omega (arith, at.1)) at.2 there))
