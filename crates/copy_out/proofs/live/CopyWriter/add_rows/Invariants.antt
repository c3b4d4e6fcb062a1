use Rattle.std.proofs.Common.{◌+◌, ◌≤◌, List, length}
use Rattle.outside.specs.Outside.{IfTold, Passed}
use Rattle.heap_rows.specs.declared.rows.LiveRow.{LiveRow}
use Rattle.heap_rows.specs.RowCursor.{IsCursorOf, IsSameCursor, rows_ahead}
use Rattle.copy_out.specs.Live.{AreLeft}
use Rattle.copy_out.proofs.live.CopyWriter.add_rows.Given as goal

-- the rows that aren't ahead any more are written
abbrev pub invariant-loop-k : goal.invariant-loop-k
invariant-loop-k g l = record {
  told : IfTold g.F.Files.seen l.fn.files (λ names. IsCursorOf names l.cursor);
  left : IfTold g.F.Files.seen l.fn.files (λ names. (all : List LiveRow) → AreLeft l.columns all (rows_ahead names l.fn.cursor) l.fn.self
      → AreLeft l.columns all (rows_ahead names l.cursor) l.self);
  few : IfTold g.F.Files.seen l.fn.files (λ names. length (rows_ahead names l.cursor) + l.k ≤ length (rows_ahead names l.fn.cursor));
  counted : l.self.unread ≤ length l.self.text;
  same : IsSameCursor l.fn.cursor l.cursor;
  asked : Passed g.F.Files.seen l.fn.files l.files;
}
