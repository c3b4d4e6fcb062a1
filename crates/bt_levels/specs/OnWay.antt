-- The walk along an index's leaves that goes on while its blocks are judged.
use Rattle.std.specs.Prelude.{◌≡◌, ◌<◌}
use Rattle.outside.specs.Outside.{Names}
use Rattle.rel_files.specs.Relation.{count_of}
use Rattle.bt_pages.specs.Trees.{tree_seen}
use Rattle.bt_pages.specs.declared.tree.TreeRules.{TreeRules}
use Rattle.bt_level_check.specs.declared.leaf_walk.LeafWalk.{LeafWalk}
use Rattle.bt_level_check.specs.Trees.{HoldsPages}
use Rattle.bt_level_check.specs.UnderWay.{IsOnItsWay, IsReadyWalk, index_of}

-- it is one along the leaves of this index, which has a block
pub record IsWalkOf (tree : TreeRules) (walk : LeafWalk) : Type 0 where
  pub ready : IsReadyWalk walk
  pub index : index_of walk ≡ tree
  pub some : 0 < count_of tree.relation.now

-- where the single pages of the index break no rule, it is as far as it says
abbrev pub IsOnWay : Names → TreeRules → LeafWalk → Type 0
IsOnWay names tree walk = HoldsPages names tree → IsOnItsWay (tree_seen names tree) walk
