use Rattle.std.proofs.Common.{◌≡◌, ◌+◌, ◌-◌, ◌*◌, ◌≤◌, ℕ, length, min}
use Rattle.outside.specs.Outside.{IfTold, Passed}
use Rattle.bt_search.specs.Spots.{StandsAt, left_at, rest_at}
use Rattle.heap_rows.specs.Reads.{ReadAtMost, columns_at, page_reads}
use Rattle.heap_rows.specs.RowCursor.{heap_at, IsCursorOf, IsSameCursor}
use Rattle.join_row_keys.specs.Rows.{IsIndexAt}
use Rattle.join_unique.specs.Groups.{entries_met}
use Rattle.join_unique.specs.Tables.{table_seen}
use Rattle.join_unique.proofs.grouping.Grouping.walk.Given as goal

-- the entries that are left give what all of them gave at first, and with those that were taken they are as many
abbrev pub invariant-loop-spot : goal.invariant-loop-spot
invariant-loop-spot g l = record {
  index : IsIndexAt l.self.index l.cursor;
  told : IfTold g.F.Files.seen l.fn.files (λ names. IsCursorOf names l.cursor);
  limit : l.visits.count ≤ l.search.limit;
  stands : IfTold g.F.Files.seen l.fn.files (λ names. StandsAt names l.search.tree.now l.search.scan.now l.spot l.page);
  few : IfTold g.F.Files.seen l.fn.files (λ names. l.visits.count + left_at names l.search.tree.now l.search.scan.now l.spot ≤ l.search.limit);
  met : IfTold g.F.Files.seen l.fn.files (λ names. entries_met (table_seen names l.self) (rest_at names l.search.tree.now l.search.scan.now l.spot) l.group ≡ entries_met (table_seen names l.self) (rest_at names l.search.tree.now l.search.scan.now l.initial.spot) l.fn.group);
  same : IsSameCursor l.fn.cursor l.cursor;
  asked : Passed g.F.Files.seen l.fn.files l.files;
  reads : IfTold g.F.Files.seen l.fn.files (λ names. (n : ℕ) × (n + length (rest_at names l.search.tree.now l.search.scan.now l.spot) ≡ length (rest_at names l.search.tree.now l.search.scan.now l.initial.spot)) × ReadAtMost (l.visits.count + page_reads (heap_at l.fn.cursor) (columns_at l.fn.cursor) * (2 * n)) g.F.Files.seen l.fn.files l.files);
}

abbrev pub decreases-loop-spot : goal.decreases-loop-spot
decreases-loop-spot g l = 2 * (l.search.limit - l.visits.count) + min 1 l.spot.block
