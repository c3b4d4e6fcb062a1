use Rattle.std.proofs.Common.{◌≤◌, ℕ}
use Rattle.outside.specs.Outside.{Names}
use Rattle.page_layout.specs.View.{page_bytes}
use Rattle.heap_page_check.specs.Quiet.{IsQuietItem}
use Rattle.heap_page_check.specs.Storage.{AreAbove}
use Rattle.heap_page_check.specs.Table.{table_seen}
use Rattle.heap_page_check.proofs.quiet.Glance.is_quiet.Given as goal

-- the items so far are quiet, and none of them reaches below the lowest
abbrev pub invariant-loop-k : goal.invariant-loop-k
invariant-loop-k l = record {
  quiet : (names : Names) (i : ℕ) → 1 ≤ i → i ≤ l.k → IsQuietItem (table_seen names l.self.table.now) l.self.all_frozen (page_bytes l.self.page) i;
  above : AreAbove (page_bytes l.self.page) l.k l.lowest;
}
