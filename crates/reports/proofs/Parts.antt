-- What holds of one list of what places or items give, one after the other, where they give records of lists.
use Rattle.std.proofs.Common.{◌≡◌, ℕ, zero, suc, ◌<◌, ◌≤◌, ◌⊎◌, inl, inr, List, [], ◌∷◌, ◌++◌, ◌∙◌, refl, sym, subst, arith}
use Rattle.std.specs.Prelude.{All, Contains}
use Rattle.std.proofs.lemmas.List.Elements.{All-append, All-nil, Contains-append_left, Contains-append_right}
use Rattle.outside.specs.Adds.{Joins, each_below}
use Rattle.reports.specs.Added.{each_upto}

pub first_is_empty : {X : Type 0} (xs ys : List X) → xs ++ ys ≡ [] → xs ≡ []
first_is_empty [] ys e = refl
first_is_empty (x ∷ xs) ys e = cc

pub second_is_empty : {X : Type 0} (xs ys : List X) → xs ++ ys ≡ [] → ys ≡ []
second_is_empty [] ys e = e
second_is_empty (x ∷ xs) ys e = cc

last_or_before : (i n : ℕ) → i ≤ suc n → (i ≤ n) ⊎ (i ≡ suc n)
last_or_before i n le = search (arith, inl, inr)

-- `part` gives one list of a record, and joins as the records do
module _ {L X : Type 0} (lists : Joins L) (part : L → List X) (none : part lists.none ≡ []) (join : (a b : L) → part (lists.join a b) ≡ part a ++ part b) where
  pub All-upto : (P : X → Type 0) (f : ℕ → L) (n : ℕ) → ((i : ℕ) → 1 ≤ i → i ≤ n → All P (part (f i))) → All P (part (each_upto lists f n))
  unfolding each_upto
  All-upto P f zero each = subst (All P) (sym none) (All-nil P)
  All-upto P f (suc n) each =
      subst (All P) (sym (join (each_upto lists f n) (f (suc n))))
      (All-append P (part (each_upto lists f n)) (part (f (suc n))) (All-upto P f n (λ i some le. each i some (omega arith))) (each (suc n) (omega arith) (omega arith)))

  pub All-below : (P : X → Type 0) (f : ℕ → L) (n : ℕ) → ((k : ℕ) → k < n → All P (part (f k))) → All P (part (each_below lists f n))
  unfolding each_below
  All-below P f zero each = subst (All P) (sym none) (All-nil P)
  All-below P f (suc n) each =
      subst (All P) (sym (join (each_below lists f n) (f n)))
      (All-append P (part (each_below lists f n)) (part (f n)) (All-below P f n (λ k lt. each k (omega arith))) (each n (omega arith)))

  pub among_upto : (f : ℕ → L) (n i : ℕ) (x : X) → 1 ≤ i → i ≤ n → Contains (part (f i)) x → Contains (part (each_upto lists f n)) x
  unfolding each_upto
  among_upto f zero i x some le has = absurd (omega arith)
  among_upto f (suc n) i x some le has =
      let Q : List X → Type 0 = λ l. Contains l x in
      let P : ℕ → Type 0 = λ j. Contains (part (f j)) x in
      let cases = last_or_before i n le in
      subst Q (sym (join (each_upto lists f n) (f (suc n)))) (elim cases [
        | inl before ↦ Contains-append_left (part (each_upto lists f n)) (part (f (suc n))) x (among_upto f n i x some before has)
        | inr last ↦ Contains-append_right (part (each_upto lists f n)) (part (f (suc n))) x (subst P last has)
      ])

  pub among_below : (f : ℕ → L) (n k : ℕ) (x : X) → k < n → Contains (part (f k)) x → Contains (part (each_below lists f n)) x
  unfolding each_below
  among_below f zero k x lt has = absurd (omega arith)
  among_below f (suc n) k x lt has =
      let Q : List X → Type 0 = λ l. Contains l x in
      let P : ℕ → Type 0 = λ j. Contains (part (f j)) x in
      let cases = last_or_before (suc k) n lt in
      subst Q (sym (join (each_below lists f n) (f n))) (elim cases [
        | inl before ↦ Contains-append_left (part (each_below lists f n)) (part (f n)) x (among_below f n k x (omega (arith, before)) has)
        | inr last ↦ let here : k ≡ n = omega (arith, last) in Contains-append_right (part (each_below lists f n)) (part (f n)) x (subst P here has)
      ])

  pub upto_is_empty : (f : ℕ → L) (n i : ℕ) → part (each_upto lists f n) ≡ [] → 1 ≤ i → i ≤ n → part (f i) ≡ []
  unfolding each_upto
  upto_is_empty f zero i e some le = absurd (omega arith)
  upto_is_empty f (suc n) i e some le =
      let P : ℕ → Type 0 = λ j. part (f j) ≡ [] in
      let both : part (each_upto lists f n) ++ part (f (suc n)) ≡ [] = sym (join (each_upto lists f n) (f (suc n))) ∙ e in
      let cases = last_or_before i n le in
      elim cases [
        | inl before ↦ upto_is_empty f n i (first_is_empty _ _ both) some before
        | inr last ↦ let here : suc n ≡ i = omega (arith, last) in subst P here (second_is_empty _ _ both)
      ]

  pub below_is_empty : (f : ℕ → L) (n k : ℕ) → part (each_below lists f n) ≡ [] → k < n → part (f k) ≡ []
  unfolding each_below
  below_is_empty f zero k e lt = absurd (omega arith)
  below_is_empty f (suc n) k e lt =
      let P : ℕ → Type 0 = λ j. part (f j) ≡ [] in
      let both : part (each_below lists f n) ++ part (f n) ≡ [] = sym (join (each_below lists f n) (f n)) ∙ e in
      let cases = last_or_before (suc k) n lt in
      elim cases [
        | inl before ↦ below_is_empty f n k (first_is_empty _ _ both) (omega (arith, before))
        | inr last ↦ let here : n ≡ k = omega (arith, last) in subst P here (second_is_empty _ _ both)
      ]
