use Rattle.std.proofs.Common.{◌≤◌, ◌+◌, ◌*◌}
use Rattle.rel_build.specs.Trees.{root_items_below}
use Rattle.page_write.specs.Writing.{HoldsItems, free_bytes}
use Rattle.rel_build.proofs.trees.root_page.Given as goal

abbrev pub invariant-loop-k : goal.invariant-loop-k
invariant-loop-k l =
    HoldsItems l.page 8176 (root_items_below l.key l.rows l.k) × (8152 ≤ free_bytes l.page + 28 * l.k)
