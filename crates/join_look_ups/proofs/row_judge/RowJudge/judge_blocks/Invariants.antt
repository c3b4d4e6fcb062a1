use Rattle.std.proofs.Common.{◌≡◌, ◌+◌, ◌*◌, ◌≤◌, length}
use Rattle.outside.specs.Adds.{each_below}
use Rattle.outside.specs.Outside.{IfTold, Passed}
use Rattle.reports.specs.Added.{joined, report_lists}
use Rattle.join_look_ups.specs.Looking.{look_length}
use Rattle.heap_rows.specs.RowCursor.{IsSameCursor, heap_at, next_in, taken_in}
use Rattle.heap_rows.specs.Reads.{ReadAtMost, columns_at, page_reads}
use Rattle.heap_rows.specs.Rows.{block_rows}
use Rattle.join_look_ups.specs.Judging.{IsBetween}
use Rattle.join_row_keys.specs.Rows.{IsIndexAt}
use Rattle.join_look_ups.specs.Rows.{owed_for, rows_from}
use Rattle.join_look_ups.proofs.row_judge.RowJudge.judge_blocks.Given as goal

-- the rows of so many blocks were judged
abbrev pub invariant-loop-k : goal.invariant-loop-k
invariant-loop-k g l = record {
  index : IsIndexAt l.self.index l.cursor;
  told : IfTold g.F.Files.seen l.fn.files (λ names. IsBetween names l.self l.look_ups l.cursor);
  lists : IfTold g.F.Files.seen l.fn.files (λ names. l.report ≡ joined l.fn.report (each_below report_lists (λ k. owed_for names l.self.index.at.tree.now (block_rows l.self.index.at.case.now names (next_in l.fn.cursor + k))) l.k));
  visits : IfTold g.F.Files.seen l.fn.files (λ names. l.look_ups.visits.count ≤ l.fn.look_ups.visits.count + length (rows_from l.self.index.at.case.now names (next_in l.fn.cursor) l.k) * look_length names l.self.index.at.tree.now);
  spent : IfTold g.F.Files.seen l.fn.files (λ names. ReadAtMost (page_reads (heap_at l.fn.cursor) (columns_at l.fn.cursor) * l.k + length (rows_from l.self.index.at.case.now names (next_in l.fn.cursor) l.k) * look_length names l.self.index.at.tree.now) g.F.Files.seen l.fn.files l.files);
  next_block : next_in l.cursor ≡ next_in l.fn.cursor + l.k;
  taken : taken_in l.cursor ≤ taken_in l.fn.cursor + l.k;
  same : IsSameCursor l.fn.cursor l.cursor;
  asked : Passed g.F.Files.seen l.fn.files l.files;
}
