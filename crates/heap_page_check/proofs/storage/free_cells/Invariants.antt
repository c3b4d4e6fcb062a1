use Rattle.std.proofs.Common.{◌≡◌, ◌<◌, ℕ, false, get_or}
use Rattle.heap_page_check.proofs.storage.free_cells.Given as goal

-- the cells so far are free
abbrev pub invariant-loop-cell : goal.invariant-loop-cell
invariant-loop-cell l = (k : ℕ) → k < l.cell-index → get_or l.cells k false ≡ false
