use Rattle.std.proofs.Common.{◌≡◌, List, ℕ}
use Rattle.outside.specs.Outside.{IfTold, Passed}
use Rattle.bt_pages.specs.Trees.{tree_seen}
use Rattle.bt_level_check.specs.declared.levels.Levels.{Levels}
use Rattle.bt_level_check.specs.Budget.{TakesReads}
use Rattle.bt_level_step.specs.Pages.{TreeDownlink}
use Rattle.bt_level_check.specs.Trees.{HoldsPages}
use Rattle.bt_level_check.specs.UnderWay.{IsSameCourse, IsUnderWay}
use Rattle.bt_level_check.specs.Walked.{IsReady, IsSameIndex, budget_of, steps_of, tree_of, walks_of}
use Rattle.bt_level_check.proofs.levels.Levels.walk.Given as goal

-- the walk is under way
abbrev pub invariant-loop-self : goal.invariant-loop-self
invariant-loop-self g l = record {
  ready : IsReady l.self;
  same : IsSameIndex l.fn.self l.self;
  course : IsSameCourse l.fn.course l.course;
  steps : steps_of l.self ≡ steps_of l.fn.self;
  taken : TakesReads g.F.Files.seen l.fn.files l.files 0 (budget_of l.fn.self) (budget_of l.self);
  way : IfTold g.F.Files.seen l.fn.files (λ names. HoldsPages names (tree_of l.fn.self) → (level : ℕ) (ds : List TreeDownlink) (old : Levels)
      → IsUnderWay (tree_seen names (tree_of l.fn.self)) level ds old l.fn.self l.fn.course
      → IsUnderWay (tree_seen names (tree_of l.fn.self)) level ds old l.self l.course);
  asked : Passed g.F.Files.seen l.fn.files l.files;
}

abbrev pub decreases-loop-self : goal.decreases-loop-self
decreases-loop-self g l = walks_of l.self
