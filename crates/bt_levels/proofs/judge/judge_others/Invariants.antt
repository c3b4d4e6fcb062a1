use Rattle.std.proofs.Common.{◌≡◌, ◌+◌, ◌*◌, ◌<◌}
use Rattle.outside.specs.Outside.{IfTold, Passed}
use Rattle.reports.specs.Added.{each_upto, joined, report_lists}
use Rattle.bt_pages.specs.Found.{block_lists}
use Rattle.bt_pages.specs.Seen.{StaysSeen}
use Rattle.bt_pages.specs.Trees.{tree_seen}
use Rattle.rel_files.specs.Relation.{count_of}
use Rattle.bt_level_check.specs.Budget.{TakesReads}
use Rattle.bt_level_check.specs.UnderWay.{budget_left}
use Rattle.bt_levels.specs.OnWay.{IsOnWay, IsWalkOf}
use Rattle.bt_levels.specs.Window.{held_page}
use Rattle.bt_levels.proofs.judge.judge_others.Given as goal

-- what is found of the blocks so far is added, and beside the first read and those of the walk each took at most 4081
abbrev pub invariant-loop-k : goal.invariant-loop-k
invariant-loop-k g l = record {
  lists : IfTold g.F.Files.seen l.fn.files (λ names. l.report ≡ joined l.fn.report (each_upto report_lists (block_lists (tree_seen names l.fn.tree.rules)) l.k));
  here : IfTold g.F.Files.seen l.fn.files (λ names. l.k + 1 < count_of l.fn.tree.rules.relation.now → held_page l.window ≡ (tree_seen names l.fn.tree.rules).block (l.k + 1));
  tree : StaysSeen g.F.Files.seen l.fn.files l.fn.tree l.tree;
  walk : IsWalkOf l.fn.tree.rules l.walk;
  way : IfTold g.F.Files.seen l.fn.files (λ names. IsOnWay names l.fn.tree.rules l.fn.walk → IsOnWay names l.fn.tree.rules l.walk);
  taken : TakesReads g.F.Files.seen l.fn.files l.files (1 + 4081 * l.k) (budget_left l.fn.walk) (budget_left l.walk);
  asked : Passed g.F.Files.seen l.fn.files l.files;
}
