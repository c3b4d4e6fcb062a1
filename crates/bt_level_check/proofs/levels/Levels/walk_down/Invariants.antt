use Rattle.std.proofs.Common.{◌≡◌, ◌≢◌, ◌≤◌, ◌*◌, ◌-◌, suc, false}
use Rattle.outside.specs.Outside.{IfTold, Passed}
use Rattle.laws_search.specs.Levels.{downlinks}
use Rattle.laws_levels.specs.Tests.{are_roots_misplaced}
use Rattle.bt_pages.specs.Trees.{tree_seen}
use Rattle.bt_level_check.specs.Budget.{TakesReads}
use Rattle.bt_level_check.specs.Trees.{HoldsPages, image_of}
use Rattle.bt_level_check.specs.Walked.{HasEnough, IsReady, IsSameIndex, StandsBefore, budget_of, tree_of}
use Rattle.bt_level_check.specs.UnderWay.{AtLevel}
use Rattle.bt_level_check.proofs.levels.Levels.walk_down.Given as goal

-- nothing was found on the levels so far
abbrev pub invariant-loop-k : goal.invariant-loop-k
invariant-loop-k g l = record {
  ready : IsReady l.self;
  same : IsSameIndex l.fn.self l.self;
  within : l.k ≤ l.meta.level;
  at : IfTold g.F.Files.seen l.fn.files (λ names. let tree = tree_seen names (tree_of l.fn.self) in
      HoldsPages names (tree_of l.fn.self) → (image_of tree).root ≢ 0 → are_roots_misplaced (image_of tree) ≡ false
      → StandsBefore tree (image_of tree).level l.fn.self (downlinks (image_of tree) 0)
      → HasEnough tree (suc (image_of tree).level) l.fn.self
      → AtLevel tree l.self (l.meta.level - l.k) l.k);
  taken : TakesReads g.F.Files.seen l.fn.files l.files (2 * l.k) (budget_of l.fn.self) (budget_of l.self);
  asked : Passed g.F.Files.seen l.fn.files l.files;
}
