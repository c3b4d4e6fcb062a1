-- What is told of the index of a walk along its leaves is told of the index that is judged.
use Rattle.std.proofs.Common.{◌≡◌, subst, sym}
use Rattle.outside.specs.Outside.{Names}
use Rattle.bt_pages.specs.Trees.{Tree, tree_seen}
use Rattle.bt_pages.specs.declared.tree.TreeRules.{TreeRules}
use Rattle.bt_level_check.specs.declared.leaf_walk.LeafWalk.{LeafWalk}
use Rattle.bt_level_check.specs.Trees.{HoldsPages}
use Rattle.bt_level_check.specs.UnderWay.{IsOnItsWay, index_of}
use Rattle.bt_levels.specs.OnWay.{IsOnWay}

pub told_of : (P : Tree → Type 0) (names : Names) (tree : TreeRules) (walk : LeafWalk) → index_of walk ≡ tree → HoldsPages names tree → IsOnWay names tree walk
    → (HoldsPages names (index_of walk) → IsOnItsWay (tree_seen names (index_of walk)) walk → P (tree_seen names (index_of walk)))
    → P (tree_seen names tree)
told_of P names tree walk is holds way told =
    subst (λ (t : TreeRules). P (tree_seen names t)) is
    (told (subst (λ (t : TreeRules). HoldsPages names t) (sym is) holds) (subst (λ (t : TreeRules). IsOnItsWay (tree_seen names t) walk) (sym is) (way holds)))
