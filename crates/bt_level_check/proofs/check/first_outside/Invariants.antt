use Rattle.std.proofs.Common.{◌≡◌, ◌+◌, ◌*◌}
use Rattle.std.specs.Prelude.{None}
use Rattle.outside.specs.Outside.{IfTold, PassedAtMost}
use Rattle.laws_levels.specs.Walk.{first_outside}
use Rattle.bt_pages.specs.Trees.{tree_seen}
use Rattle.bt_level_check.specs.Sets.{is_in}
use Rattle.bt_level_check.specs.Trees.{image_of}
use Rattle.bt_level_check.proofs.check.first_outside.Given as goal

-- no block so far is outside
abbrev pub invariant-loop-k : goal.invariant-loop-k
invariant-loop-k g l = record {
  none : IfTold g.F.Files.seen l.fn.files (λ names. first_outside (image_of (tree_seen names l.tree)) (is_in l.stands) (l.k + 1) ≡ None);
  asked : PassedAtMost (2 * l.k) g.F.Files.seen l.fn.files l.files;
}
