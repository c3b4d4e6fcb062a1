use Rattle.std.proofs.Common.{◌≡◌}
use Rattle.std.specs.Prelude.{slice_get}
use Rattle.outside.specs.Adds.{each_below}
use Rattle.reports.specs.Added.{joined, report_lists}
use Rattle.heap_targets.specs.Targets.{is_in}
use Rattle.join_rules.specs.Lists.{nth_lists}
use Rattle.join_leaf_pass.proofs.leaf.Named.judge_list.Given as goal

-- what is found of the TIDs so far is added
abbrev pub invariant-loop-k : goal.invariant-loop-k
invariant-loop-k l = record {
  lists : l.report ≡ joined l.initial.report (each_below report_lists (λ k. nth_lists l.self.number (is_in l.self.targets.now) l.at.block l.at.item (slice_get l.tids k)) l.k);
}
