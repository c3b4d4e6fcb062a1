use Rattle.std.proofs.Common.{◌≡◌, ◌++◌}
use Rattle.outside.specs.Adds.{each_below, one_list}
use Rattle.rel_build.specs.Trees.{leaf_page}
use Rattle.rel_build.proofs.trees.push_leaves.Given as goal

abbrev pub invariant-loop-k : goal.invariant-loop-k
invariant-loop-k l = l.file.items ≡ l.initial.file.items ++ each_below one_list (leaf_page l.key l.rows) l.k
