use Rattle.std.proofs.Common.{◌≡◌, ◌*◌, ◌≤◌, ◌⊎◌, true}
use Rattle.std.specs.Prelude.{Contains}
use Rattle.outside.specs.Outside.{IfTold, PassedAtMost}
use Rattle.rel_files.specs.Relation.{count_of}
use Rattle.heap_table_check.specs.Files.{heap_in}
use Rattle.heap_rows.specs.Reads.{most_block_reads}
use Rattle.heap_rows.specs.declared.rows.LiveRow.{LiveRow}
use Rattle.heap_rows.specs.RowCursor.{IsCursorOf, IsSameCursor, heap_at, next_in, rows_ahead}
use Rattle.join_unique.specs.Roots.{is_root_in}
use Rattle.join_unique.proofs.check.add_roots.Given as goal

-- the root of each row is in the set, or the row is still ahead
abbrev pub invariant-loop-k : goal.invariant-loop-k
invariant-loop-k g l = record {
  told : IfTold g.F.Files.seen l.fn.files (λ names. IsCursorOf names l.cursor);
  roots : IfTold g.F.Files.seen l.fn.files (λ names. (row : LiveRow) → Contains (rows_ahead names l.fn.cursor) row → (is_root_in l.roots row.root ≡ true) ⊎ Contains (rows_ahead names l.cursor) row);
  same : IsSameCursor l.fn.cursor l.cursor;
  within : next_in l.cursor ≤ count_of (heap_in (heap_at l.fn.cursor));
  asked : PassedAtMost (most_block_reads (heap_at l.fn.cursor) * next_in l.cursor) g.F.Files.seen l.fn.files l.files;
}
