use Rattle.std.proofs.Common.{◌≡◌, length}
use Rattle.outside.specs.Outside.{Names}
use Rattle.outside.specs.Adds.{one_list}
use Rattle.reports.specs.Added.{each_upto}
use Rattle.heap_rows.specs.RowCursor.{IsCursorOf, asked_at, case_at}
use Rattle.heap_rows.specs.PageRows.{ArePageRows}
use Rattle.heap_rows.specs.Rows.{item_rows}
use Rattle.heap_rows.proofs.row_cursor.RowCursor.page_rows.Given as goal

-- the rows of the first items
abbrev pub invariant-loop-i : goal.invariant-loop-i
invariant-loop-i l = record {
  count : length l.rows ≡ l.i;
  are : (names : Names) → IsCursorOf names l.self → ArePageRows l.self.page.block (asked_at l.self) l.first l.count 1 l.rows
      (each_upto one_list (item_rows (case_at l.self) names l.self.page.block l.self.page.bytes) l.i);
}
