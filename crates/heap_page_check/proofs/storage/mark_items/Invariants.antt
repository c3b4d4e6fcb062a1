use Rattle.page_layout.specs.View.{page_bytes}
use Rattle.heap_page_check.specs.Storage.{AreMarked}
use Rattle.heap_page_check.proofs.storage.mark_items.Given as goal

-- the items so far are marked
abbrev pub invariant-loop-k : goal.invariant-loop-k
invariant-loop-k l = AreMarked (page_bytes l.page) l.k l.cells
