use Rattle.std.proofs.Common.{◌≡◌, map}
use Rattle.std.specs.Prelude.{take, sum_by}
use Rattle.outside.specs.Outside.{IfTold, Passed}
use Rattle.bt_levels.specs.Files.{number_of}
use Rattle.bt_levels.specs.Sound.{file_of}
use Rattle.join_rules.specs.Lists.{indexed_lists}
use Rattle.heap_rows.specs.Reads.{ReadAtMost}
use Rattle.heap_indexed.specs.Reads.{looking_reads}
use Rattle.heap_indexed.proofs.check_all.probe_indexes.Given as goal

-- the reports of the indexes so far
abbrev pub invariant-loop-j : goal.invariant-loop-j
invariant-loop-j g l = record {
  reports : IfTold g.F.Files.seen l.fn.files (λ names. l.reports.items ≡ map (λ tree. indexed_lists l.fn.at.case.now names (number_of (file_of tree))) (take l.j l.fn.at.trees.now));
  asked : Passed g.F.Files.seen l.fn.files l.files;
  reads : IfTold g.F.Files.seen l.fn.files (λ names. ReadAtMost (sum_by (looking_reads names l.fn.at.case.now l.fn.at.heap.now) (take l.j l.fn.at.trees.now)) g.F.Files.seen l.fn.files l.files);
}
