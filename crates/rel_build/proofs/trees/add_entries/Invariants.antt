use Rattle.std.proofs.Common.{◌≡◌, ◌+◌, ◌*◌, ◌++◌, ℕ, List, map, take}
use Rattle.rel_build.specs.Trees.{leaf_item}
use Rattle.page_write.specs.Writing.{HoldsItems, free_bytes}
use Rattle.rel_build.proofs.trees.add_entries.Given as goal

abbrev pub invariant-loop-row : goal.invariant-loop-row
invariant-loop-row l =
    ((items : List (List ℕ)) → HoldsItems l.initial.page 8176 items
    → HoldsItems l.page 8176 (items ++ map (leaf_item l.key) (take l.row-index l.rows)))
    × (free_bytes l.page + 20 * l.row-index ≡ free_bytes l.initial.page)
