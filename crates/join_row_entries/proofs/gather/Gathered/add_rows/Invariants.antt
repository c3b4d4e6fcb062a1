use Rattle.std.proofs.Common.{◌+◌, ◌≤◌, List, length}
use Rattle.outside.specs.Outside.{IfTold, Passed}
use Rattle.heap_rows.specs.declared.rows.LiveRow.{LiveRow}
use Rattle.heap_rows.specs.RowCursor.{IsCursorOf, IsSameCursor, rows_ahead}
use Rattle.join_row_entries.specs.Gathering.{AreLeft, IsListOf}
use Rattle.join_row_entries.proofs.gather.Gathered.add_rows.Given as goal

-- the rows that aren't ahead any more are gathered
abbrev pub invariant-loop-k : goal.invariant-loop-k
invariant-loop-k g l = record {
  list : IsListOf l.reader.case.now l.reader.index l.self;
  told : IfTold g.F.Files.seen l.fn.files (λ names. IsCursorOf names l.cursor);
  left : IfTold g.F.Files.seen l.fn.files (λ names. (all : List LiveRow) → AreLeft l.reader.case.now l.reader.index all (rows_ahead names l.fn.cursor) l.fn.self
      → AreLeft l.reader.case.now l.reader.index all (rows_ahead names l.cursor) l.self);
  few : IfTold g.F.Files.seen l.fn.files (λ names. length (rows_ahead names l.cursor) + l.k ≤ length (rows_ahead names l.fn.cursor));
  same : IsSameCursor l.fn.cursor l.cursor;
  asked : Passed g.F.Files.seen l.fn.files l.files;
}
