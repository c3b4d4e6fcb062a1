-- Loops over the items of a page, counted from 1.
use Rattle.std.proofs.Common.{◌≡◌, ℕ, zero, suc, ◌+◌, ◌<◌, ◌∙◌, refl, sym, ap, subst, add-one}
use Rattle.outside.specs.Adds.{Begins, Joins, each_below}
use Rattle.outside.proofs.Adding.{loop-cut}
use Rattle.reports.specs.Added.{each_upto}

module _ {L : Type 0} (lists : Joins L) where
  -- no item yet
  pub upto-none : (f : ℕ → L) (old : L) → old ≡ lists.join old (each_upto lists f 0)
  unfolding each_upto
  upto-none f old = sym (lists.with_none old)

  next_is : (f : ℕ → L) (k : ℕ) → each_upto lists f (k + 1) ≡ lists.join (each_upto lists f k) (f (k + 1))
  unfolding each_upto
  next_is f k = rw add-one refl

  -- one more item
  pub upto-next : (f : ℕ → L) (k : ℕ) (old mid new : L)
      → mid ≡ lists.join old (each_upto lists f k) → new ≡ lists.join mid (f (k + 1)) → new ≡ lists.join old (each_upto lists f (k + 1))
  upto-next f k old mid new was now =
      now ∙ ap (λ (l : L). lists.join l (f (k + 1))) was ∙ lists.in_turn old (each_upto lists f k) (f (k + 1)) ∙ ap (lists.join old) (sym (next_is f k))

  from_one : (ℕ → L) → ℕ → L
  from_one f k = f (suc k)

  as_below : (f : ℕ → L) (n : ℕ) → each_below lists (from_one f) n ≡ each_upto lists f n
  unfolding each_below each_upto from_one
  as_below f zero = refl
  as_below f (suc n) = ap (λ (l : L). lists.join l (f (suc n))) (as_below f n)

  -- a `?` at item k + 1
  pub upto-cut : (f : ℕ → L) (k n : ℕ) (old mid new : L)
      → k < n → mid ≡ lists.join old (each_upto lists f k) → Begins lists mid new (f (k + 1)) → Begins lists old new (each_upto lists f n)
  unfolding from_one
  upto-cut f k n old mid new lt was now =
      let before : mid ≡ lists.join old (each_below lists (from_one f) k) = was ∙ ap (lists.join old) (sym (as_below f k)) in
      let here : Begins lists mid new (from_one f k) = subst (λ (m : ℕ). Begins lists mid new (f m)) (add-one k) now in
      subst (λ (l : L). Begins lists old new l) (as_below f n) (loop-cut lists (from_one f) k n old mid new lt before here)
