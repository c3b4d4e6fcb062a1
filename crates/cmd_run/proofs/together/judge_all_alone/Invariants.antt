use Rattle.std.proofs.Common.{length}
use Rattle.std.specs.Prelude.{All}
use Rattle.outside.specs.Outside.{IfTold, Passed}
use Rattle.bt_levels.specs.Files.{BelongsTo, IsFileOf}
use Rattle.cmd_run.specs.Together.{BelongAlone, WereJudged}
use Rattle.cmd_run.proofs.together.judge_all_alone.Given as goal

-- those that aren't left were judged
abbrev pub invariant-loop-tree : goal.invariant-loop-tree
invariant-loop-tree g l = record {
  told : IfTold g.F.Files.seen l.initial.files (λ names. All (IsFileOf l.case names) l.trees.items);
  belongs : All (BelongsTo l.case) l.trees.items;
  judged : IfTold g.F.Files.seen l.initial.files (λ names. WereJudged l.case names l.initial.trees.items l.trees.items l.alone);
  belong : BelongAlone l.case l.alone;
  asked : Passed g.F.Files.seen l.initial.files l.files;
}

abbrev pub decreases-loop-tree : goal.decreases-loop-tree
decreases-loop-tree g l = length l.trees.items
