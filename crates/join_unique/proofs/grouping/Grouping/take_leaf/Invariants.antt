use Rattle.std.proofs.Common.{◌≡◌, ◌+◌, ◌*◌, length}
use Rattle.outside.specs.Outside.{IfTold, Passed, PassedAtMost}
use Rattle.bt_search.specs.Spots.{StandsAt, left_at, rest_at}
use Rattle.heap_rows.specs.Reads.{columns_at, page_reads}
use Rattle.heap_rows.specs.RowCursor.{heap_at, IsCursorOf, IsSameCursor}
use Rattle.join_row_keys.specs.Rows.{IsIndexAt}
use Rattle.join_unique.specs.Groups.{entries_met}
use Rattle.join_unique.specs.Tables.{table_seen}
use Rattle.join_unique.proofs.grouping.Grouping.take_leaf.Given as goal

-- the entries that are left give what all of them gave at first, and with those that were taken they are as many
abbrev pub invariant-loop-k : goal.invariant-loop-k
invariant-loop-k g l = record {
  index : IsIndexAt l.self.index l.cursor;
  told : IfTold g.F.Files.seen l.fn.files (λ names. IsCursorOf names l.cursor);
  block : l.spot.block ≡ l.fn.spot.block;
  stands : IfTold g.F.Files.seen l.fn.files (λ names. StandsAt names l.self.index.at.tree.now l.self.scan.now l.spot l.page);
  met : IfTold g.F.Files.seen l.fn.files (λ names. entries_met (table_seen names l.self) (rest_at names l.self.index.at.tree.now l.self.scan.now l.spot) l.group ≡ entries_met (table_seen names l.self) (rest_at names l.self.index.at.tree.now l.self.scan.now l.fn.spot) l.fn.group);
  left : IfTold g.F.Files.seen l.fn.files (λ names. left_at names l.self.index.at.tree.now l.self.scan.now l.fn.spot ≡ left_at names l.self.index.at.tree.now l.self.scan.now l.spot);
  same : IsSameCursor l.fn.cursor l.cursor;
  asked : Passed g.F.Files.seen l.fn.files l.files;
  count : IfTold g.F.Files.seen l.fn.files (λ names. l.k + length (rest_at names l.self.index.at.tree.now l.self.scan.now l.spot) ≡ length (rest_at names l.self.index.at.tree.now l.self.scan.now l.fn.spot));
  reads : PassedAtMost (page_reads (heap_at l.fn.cursor) (columns_at l.fn.cursor) * 2 * l.k) g.F.Files.seen l.fn.files l.files;
}
