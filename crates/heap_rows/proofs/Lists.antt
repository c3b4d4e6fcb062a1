-- What places give, one after the other, as one list.
use Rattle.std.proofs.Common.{◌≡◌, ℕ, zero, suc, ◌+◌, List, [], ◌++◌, add-one, append-nil, append_assoc, refl, sym, ap, ◌∙◌}
use Rattle.outside.specs.Adds.{each_below, one_list}
use Rattle.reports.specs.Added.{each_upto}

pub each_below-none : {X : Type 0} (f : ℕ → List X) → each_below one_list f 0 ≡ []
unfolding each_below
each_below-none f = refl

pub each_below-next : {X : Type 0} (f : ℕ → List X) (n : ℕ) → each_below one_list f (n + 1) ≡ each_below one_list f n ++ f n
unfolding each_below
each_below-next f n = rw add-one refl

pub each_upto-none : {X : Type 0} (f : ℕ → List X) → each_upto one_list f 0 ≡ []
unfolding each_upto
each_upto-none f = refl

pub each_upto-next : {X : Type 0} (f : ℕ → List X) (n : ℕ) → each_upto one_list f (n + 1) ≡ each_upto one_list f n ++ f (n + 1)
unfolding each_upto
each_upto-next f n = rw add-one refl

-- the first place, and then the others
pub each_below-first : {X : Type 0} (f : ℕ → List X) (n : ℕ) → each_below one_list f (suc n) ≡ f 0 ++ each_below one_list (λ k. f (suc k)) n
unfolding each_below
each_below-first f zero = sym (append-nil (f 0))
each_below-first {X = X} f (suc n) =
    ap (λ (xs : List X). xs ++ f (suc n)) (each_below-first f n) ∙ append_assoc (f 0) (each_below one_list (λ k. f (suc k)) n) (f (suc n))
