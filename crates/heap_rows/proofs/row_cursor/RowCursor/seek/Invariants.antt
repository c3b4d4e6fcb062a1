use Rattle.std.proofs.Common.{◌≡◌, ◌≤◌, ◌+◌, ◌-◌, ◌*◌}
use Rattle.outside.specs.Outside.{IfTold, PassedAtMost}
use Rattle.rel_files.specs.Relation.{count_of}
use Rattle.heap_table_check.specs.Files.{heap_in}
use Rattle.heap_rows.specs.RowCursor.{IsCursorOf, IsPageDone, IsSameCursor, heap_at, rows_ahead}
use Rattle.heap_rows.specs.Reads.{most_block_reads, value_reads}
use Rattle.heap_rows.proofs.row_cursor.RowCursor.seek.Given as goal

-- the blocks so far were read, and no row was left in them
abbrev pub invariant-loop : goal.invariant-loop
invariant-loop g l = record {
  told : IfTold g.F.Files.seen l.initial.files (λ names. IsCursorOf names l.self);
  left : IfTold g.F.Files.seen l.initial.files (λ names. rows_ahead names l.self ≡ rows_ahead names l.initial.self);
  done : IfTold g.F.Files.seen l.initial.files (λ names. IsPageDone names l.self);
  same : IsSameCursor l.initial.self l.self;
  next : l.self.next ≡ l.counter;
  from : IsSameCursor l.fn.self l.self;
  onward : l.fn.self.next ≤ l.self.next;
  within : l.fn.self.next ≤ count_of (heap_in (heap_at l.fn.self)) → l.self.next ≤ count_of (heap_in (heap_at l.fn.self));
  asked : PassedAtMost ((most_block_reads (heap_at l.fn.self) + value_reads l.fn.self) * (l.self.next - l.fn.self.next)) g.F.Files.seen l.initial.files l.files;
}
