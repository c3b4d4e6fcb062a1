use Rattle.std.proofs.Common.{◌≡◌}
use Rattle.outside.specs.Adds.{each_below}
use Rattle.outside.specs.Outside.{IfTold, Passed}
use Rattle.rel_files.specs.Relation.{base_of, size_of}
use Rattle.reports.specs.Added.{joined, report_lists}
use Rattle.heap_table_check.specs.Map.{map_block_found}
use Rattle.heap_table_check.specs.MapPage.{IsMapInHand}
use Rattle.heap_table_check.proofs.map.MapPage.judge_pages.Given as goal

-- what is found of the pages so far is added, and the last is in hand
abbrev pub invariant-loop-block : goal.invariant-loop-block
invariant-loop-block g l = record {
  found : IfTold g.F.Files.seen l.initial.files (λ names. l.report ≡ joined l.initial.report (each_below report_lists (map_block_found names (base_of l.map) (size_of l.map)) l.block));
  hand : IfTold g.F.Files.seen l.initial.files (λ names. IsMapInHand names l.map l.self);
  asked : Passed g.F.Files.seen l.initial.files l.files;
}
