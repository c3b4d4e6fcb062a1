use Rattle.std.proofs.Common.{◌≡◌, ◌+◌, ◌*◌, ◌≤◌, length}
use Rattle.outside.specs.Adds.{Leaves}
use Rattle.outside.specs.Outside.{IfTold, Passed}
use Rattle.reports.specs.Added.{report_lists}
use Rattle.join_look_ups.specs.Looking.{look_length}
use Rattle.heap_rows.specs.RowCursor.{IsSameCursor, next_in, rows_here, taken_in}
use Rattle.heap_rows.specs.Reads.{value_reads}
use Rattle.join_look_ups.specs.Judging.{IsWithin}
use Rattle.join_row_keys.specs.Rows.{IsIndexAt}
use Rattle.join_look_ups.specs.Rows.{owed_for}
use Rattle.join_look_ups.proofs.row_judge.RowJudge.judge_block.Given as goal

-- what was added and what is owed then is what was owed
abbrev pub invariant-loop-k : goal.invariant-loop-k
invariant-loop-k g l = record {
  index : IsIndexAt l.self.index l.cursor;
  told : IfTold g.F.Files.seen l.fn.files (λ names. IsWithin names l.self l.look_ups l.cursor);
  lists : IfTold g.F.Files.seen l.fn.files (λ names. Leaves report_lists l.fn.report l.report (owed_for names l.self.index.at.tree.now (rows_here names l.fn.cursor)) (owed_for names l.self.index.at.tree.now (rows_here names l.cursor)));
  visits : IfTold g.F.Files.seen l.fn.files (λ names. l.look_ups.visits.count + length (rows_here names l.cursor) * look_length names l.self.index.at.tree.now ≤ l.fn.look_ups.visits.count + length (rows_here names l.fn.cursor) * look_length names l.self.index.at.tree.now);
  spent : IfTold g.F.Files.seen l.fn.files (λ names. (g.F.Files.seen l.files).reads + length (rows_here names l.cursor) * look_length names l.self.index.at.tree.now ≤ (g.F.Files.seen l.fn.files).reads + (value_reads l.fn.cursor * l.k + length (rows_here names l.fn.cursor) * look_length names l.self.index.at.tree.now));
  few : IfTold g.F.Files.seen l.fn.files (λ names. length (rows_here names l.cursor) + l.k ≤ length (rows_here names l.fn.cursor));
  next_block : next_in l.cursor ≡ next_in l.fn.cursor;
  taken : taken_in l.cursor ≡ taken_in l.fn.cursor;
  same : IsSameCursor l.fn.cursor l.cursor;
  asked : Passed g.F.Files.seen l.fn.files l.files;
}
