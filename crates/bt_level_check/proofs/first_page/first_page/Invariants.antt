use Rattle.outside.specs.Outside.{IfTold, Passed}
use Rattle.std.proofs.Common.{◌≡◌, ◌≢◌, ◌+◌, ◌-◌, ◌*◌, ◌≤◌, length}
use Rattle.laws_search.specs.Searchable.{IsInUse}
use Rattle.laws_search.specs.Tree.{linked_from}
use Rattle.laws_levels.specs.Links.{to_left}
use Rattle.laws_levels.proofs.Loops.{LeftWalk}
use Rattle.bt_pages.specs.Trees.{tree_seen}
use Rattle.bt_level_check.specs.Budget.{TakesReads}
use Rattle.bt_level_check.specs.Trees.{HoldsPages, image_of}
use Rattle.bt_level_check.specs.Walked.{lefts_of}
use Rattle.rel_files.specs.Relation.{count_of}
use Rattle.bt_level_check.proofs.first_page.first_page.Given as goal

-- the links to the left were followed so far: as many as steps were taken
abbrev pub invariant-loop-steps : goal.invariant-loop-steps
invariant-loop-steps g l = record {
  fewer : l.steps ≤ l.fn.steps;
  left : IfTold g.F.Files.seen l.fn.files (λ names. HoldsPages names l.tree → IsInUse (image_of (tree_seen names l.tree)) l.entry
      → LeftWalk (to_left (image_of (tree_seen names l.tree))) l.entry (count_of l.tree.relation.now) (l.fn.steps - l.steps) l.block l.next);
  count : IfTold g.F.Files.seen l.fn.files (λ names. HoldsPages names l.tree → IsInUse (image_of (tree_seen names l.tree)) l.entry
      → l.fn.steps - l.steps + length (linked_from (to_left (image_of (tree_seen names l.tree))) (count_of l.tree.relation.now - (l.fn.steps - l.steps)) l.next)
      ≡ length (lefts_of (image_of (tree_seen names l.tree)) l.entry));
  used : IfTold g.F.Files.seen l.fn.files (λ names. HoldsPages names l.tree → IsInUse (image_of (tree_seen names l.tree)) l.entry
      → l.next ≢ 0 → IsInUse (image_of (tree_seen names l.tree)) l.next);
  taken : TakesReads g.F.Files.seen l.fn.files l.files 2 (2 * l.fn.steps) (2 * l.steps);
  asked : Passed g.F.Files.seen l.fn.files l.files;
}

abbrev pub decreases-loop-steps : goal.decreases-loop-steps
decreases-loop-steps g l = l.steps
