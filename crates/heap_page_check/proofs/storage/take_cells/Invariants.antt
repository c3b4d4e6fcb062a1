use Rattle.std.proofs.Common.{◌≡◌, ◌≤◌, ◌<◌, ℕ, true, false, get_or}
use Rattle.heap_page_check.specs.Storage.{IsTakenBetween, taken_with}
use Rattle.heap_page_check.proofs.storage.take_cells.Given as goal

-- the cells so far are taken, and it is known whether one of them was
abbrev pub invariant-loop-k : goal.invariant-loop-k
invariant-loop-k l = record {
  found : l.was_taken ≡ true → IsTakenBetween l.initial.cells l.first l.k;
  none : l.was_taken ≡ false → (k : ℕ) → l.first ≤ k → k < l.k → get_or l.initial.cells k false ≡ false;
  now : (k : ℕ) → get_or l.cells k false ≡ taken_with l.initial.cells l.first l.k k;
}
