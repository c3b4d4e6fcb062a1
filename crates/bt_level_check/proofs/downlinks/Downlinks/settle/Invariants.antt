use Rattle.std.proofs.Common.{◌≤◌, ℕ, List, suc}
use Rattle.outside.specs.Outside.{IfTold, Passed}
use Rattle.bt_pages.specs.Trees.{tree_seen}
use Rattle.bt_level_check.specs.Budget.{TakesReads}
use Rattle.bt_level_step.specs.Pages.{TreeDownlink}
use Rattle.bt_level_check.specs.Downlinks.{AreReadableDownlinks, Reads, turns_of}
use Rattle.bt_level_check.specs.Sets.{is_in}
use Rattle.bt_level_check.specs.Trees.{HoldsPages}
use Rattle.bt_level_check.proofs.downlinks.Downlinks.settle.Given as goal

-- the same downlinks are left
abbrev pub invariant-loop-self : goal.invariant-loop-self
invariant-loop-self g l = record {
  readable : AreReadableDownlinks l.tree.columns.specs.now l.self;
  reads : IfTold g.F.Files.seen l.fn.files (λ names. HoldsPages names l.tree → (level : ℕ) (left : List TreeDownlink)
      → Reads (tree_seen names l.tree) (is_in l.dead) (suc level) (turns_of l.fn.self) l.fn.self left
      → Reads (tree_seen names l.tree) (is_in l.dead) (suc level) (turns_of l.self) l.self left);
  fewer : turns_of l.self ≤ turns_of l.fn.self;
  taken : TakesReads g.F.Files.seen l.fn.files l.files 0 (turns_of l.fn.self) (turns_of l.self);
  asked : Passed g.F.Files.seen l.fn.files l.files;
}

abbrev pub decreases-loop-self : goal.decreases-loop-self
decreases-loop-self g l = turns_of l.self
