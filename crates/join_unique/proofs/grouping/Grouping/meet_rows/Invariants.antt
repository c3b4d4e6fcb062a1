use Rattle.std.proofs.Common.{◌≡◌, ◌+◌, ◌*◌, ◌≤◌, length}
use Rattle.outside.specs.Outside.{IfTold, PassedAtMost}
use Rattle.heap_rows.specs.Reads.{value_reads}
use Rattle.heap_rows.specs.RowCursor.{IsCursorOf, IsSameCursor, rows_here}
use Rattle.join_row_keys.specs.Rows.{IsIndexAt}
use Rattle.join_unique.specs.Tables.{group_after, table_seen}
use Rattle.join_unique.proofs.grouping.Grouping.meet_rows.Given as goal

-- the rows that are left give what all of them gave at first
abbrev pub invariant-loop-k : goal.invariant-loop-k
invariant-loop-k g l = record {
  index : IsIndexAt l.self.index l.cursor;
  told : IfTold g.F.Files.seen l.fn.files (λ names. IsCursorOf names l.cursor);
  met : IfTold g.F.Files.seen l.fn.files (λ names. group_after (table_seen names l.self) l.group (rows_here names l.cursor) ≡ group_after (table_seen names l.self) l.fn.group (rows_here names l.fn.cursor));
  few : IfTold g.F.Files.seen l.fn.files (λ names. length (rows_here names l.cursor) + l.k ≤ length (rows_here names l.fn.cursor));
  same : IsSameCursor l.fn.cursor l.cursor;
  asked : PassedAtMost (value_reads l.fn.cursor * l.k) g.F.Files.seen l.fn.files l.files;
}
