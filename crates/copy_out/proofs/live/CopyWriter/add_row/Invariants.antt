use Rattle.std.proofs.Common.{◌≡◌, ◌≤◌, ◌∷◌, List, length}
use Rattle.outside.specs.Outside.{Names}
use Rattle.heap_rows.specs.RowCursor.{IsCursorOf, rows_ahead}
use Rattle.heap_rows.specs.declared.rows.LiveRow.{LiveRow}
use Rattle.copy_out.proofs.Copying.{IsPart}
use Rattle.copy_out.proofs.live.CopyWriter.add_row.Given as goal

-- the fields so far are written
abbrev pub invariant-loop-k : goal.invariant-loop-k
invariant-loop-k l = record {
  part : (names : Names) (row : LiveRow) (rows : List LiveRow) → IsCursorOf names l.cursor → rows_ahead names l.cursor ≡ row ∷ rows
      → IsPart l.columns row.cells l.k l.fn.self l.self;
  counted : l.self.unread ≤ length l.self.text;
}
