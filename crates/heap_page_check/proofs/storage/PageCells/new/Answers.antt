use Rattle.std.proofs.Common.{◌≡◌, ℕ, false, get_or, length, refl, replicate, arith, List, Bool}
use Rattle.std.proofs.lemmas.Grind.{common_steps}
use Rattle.heap_page_check.proofs.Meeting.{free_at_first, none_added}
use Rattle.heap_page_check.specs.Storage.{AreFree}
use Rattle.heap_page_check.proofs.storage.PageCells.new.Goals as goal

long : (xs : List Bool) (n : ℕ) → xs ≡ replicate n false → length xs ≡ n
long xs n e = grind (arith, common_steps)

free : (xs : List Bool) (n : ℕ) → xs ≡ replicate n false → AreFree xs
free xs n e k = rw e (none n k)
  where
    none : (n k : ℕ) → get_or (replicate n false) k false ≡ false
    none n k = grind (arith, common_steps)

pub invariant_of-result : goal.invariant_of-result
invariant_of-result c = let e = c.in_ok-taken.ensures.items_if_clones_equal (λ y e. e) in (long _ 1024 e, λ none. free _ 1024 e)

pub returns : goal.returns
returns c page =
    let e = c.in_ok-taken.ensures.items_if_clones_equal (λ y e. e) in
    none_added page _ refl refl (free_at_first page _ (long _ 1024 e) (free _ 1024 e))
