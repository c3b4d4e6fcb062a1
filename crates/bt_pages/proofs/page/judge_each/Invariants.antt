use Rattle.std.proofs.Common.{◌≡◌, ◌*◌}
use Rattle.outside.specs.Outside.{IfTold, PassedAtMost}
use Rattle.page_layout.specs.View.{page_bytes}
use Rattle.reports.specs.Added.{each_upto, joined, report_lists}
use Rattle.bt_pages.specs.Found.{item_lists}
use Rattle.bt_pages.specs.Seen.{StaysSeen}
use Rattle.bt_pages.specs.Trees.{tree_seen}
use Rattle.bt_pages.proofs.page.judge_each.Given as goal

-- what is found of the items so far is added, and each took at most two reads
abbrev pub invariant-loop-k : goal.invariant-loop-k
invariant-loop-k g l = record {
  lists : IfTold g.F.Files.seen l.initial.files (λ names. l.report ≡ joined l.initial.report (each_upto report_lists (item_lists (tree_seen names l.initial.tree.rules) l.b (page_bytes l.page)) l.k));
  tree : StaysSeen g.F.Files.seen l.initial.files l.initial.tree l.tree;
  asked : PassedAtMost (2 * l.k) g.F.Files.seen l.initial.files l.files;
}
