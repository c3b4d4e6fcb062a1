-- The index that the code's rules stand for is that of the case.
use Rattle.std.proofs.Common.{◌≡◌, ℕ}
use Rattle.outside.specs.Outside.{Names}
use Rattle.rel_files.specs.Blocks.{block_of}
use Rattle.rel_files.specs.Relation.{IsRelationOf, long_of}
use Rattle.case_file.specs.Record.{CaseRecord}
use Rattle.rel_files.specs.Refusals.{IsNamed, index_limit}
use Rattle.bt_pages.specs.Trees.{tree_seen}
use Rattle.bt_pages.specs.declared.tree.TreeRules.{TreeRules}
use Rattle.bt_levels.specs.Index.{index_of, tree_lists, tree_of}
use Rattle.bt_levels.specs.Lists.{index_lists}

module _ (case : CaseRecord) (names : Names) (n : ℕ) (rules : TreeRules) (number : rules.number ≡ n) (specs : rules.columns.specs.now ≡ (index_of case n).keys) (more : rules.columns.more.now ≡ (index_of case n).more)
    (named : IsNamed (index_of case n).file case.segment_blocks rules.relation.now) (is : IsRelationOf names (index_of case n).file case.segment_blocks index_limit rules.relation.now) where
  pub tree-seen : tree_seen names rules ≡ tree_of case names n
  tree-seen = λ i. record {
    number = number i;
    specs = specs i;
    more = more i;
    blocks = is.count i;
    block = block_of names (named.named i) (named.sized i);
  }

  pub lists-seen : index_lists (tree_seen names rules) (long_of rules.relation.now) ≡ tree_lists case names n
  unfolding tree_lists
  lists-seen = λ i. index_lists (tree-seen i) (is.long i)
