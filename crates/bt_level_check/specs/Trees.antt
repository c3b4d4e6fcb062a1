-- An index whose levels are walked, by what its files hold.
use Rattle.std.specs.Prelude.{Bool, Option}
use Rattle.outside.specs.Outside.{Names}
use Rattle.rel_files.specs.Relation.{IsAttached}
use Rattle.laws_search.specs.Keys.{Entry, Separator}
use Rattle.laws_search.specs.Order.{Order}
use Rattle.laws_levels.specs.Questions.{Finding}
use Rattle.laws_levels.specs.Same.{same_keys}
use Rattle.laws_levels.specs.Tests.{first_broken}
use Rattle.key_orders.specs.declared.columns.Value.{Value}
use Rattle.key_orders.specs.declared.Tid.{Tid}
use Rattle.key_orders.specs.Keys.{columns_of, tid_order}
use Rattle.key_orders.specs.Scans.{order_of}
use Rattle.bt_image.specs.Image.{TreeIndex, index_image}
use Rattle.bt_image.specs.Pages.{KeepsTreeRules}
use Rattle.bt_pages.specs.Trees.{Tree, tree_seen}
use Rattle.bt_pages.specs.declared.tree.TreeRules.{TreeRules}

-- a tree as a search sees it, the order of its keys, and whether two separators are the same
abbrev pub image_of : Tree → TreeIndex
image_of tree = index_image tree.specs tree.more tree.blocks tree.block

abbrev pub order_in : Tree → Order (Separator Value Tid) (Entry Value Tid)
order_in tree = order_of tree.specs

abbrev pub same_in : Tree → Separator Value Tid → Separator Value Tid → Bool
same_in tree = same_keys (columns_of tree.specs) tid_order

-- the rule on levels that it breaks first, and the block that is named for it
abbrev pub first_broken_in : Tree → Option Finding
first_broken_in tree = first_broken (same_in tree) (order_in tree) (image_of tree)

-- its blocks break none of the rules on single pages
abbrev pub KeepsPages : Tree → Type 0
KeepsPages tree = KeepsTreeRules tree.specs tree.more tree.blocks tree.block

-- so it is of the index that the code's rules stand for, by what these names hold
pub record HoldsPages (names : Names) (tree : TreeRules) : Type 0 where
  pub attached : IsAttached names tree.relation.now
  pub pages : KeepsPages (tree_seen names tree)
