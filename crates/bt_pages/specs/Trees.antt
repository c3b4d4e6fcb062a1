-- An index whose pages are judged, and what is read of a page beside the one that is judged.
use Rattle.std.specs.Prelude.{ℕ, Bool, ◌==◌, ◌||◌, List}
use Rattle.outside.specs.Outside.{Names}
use Rattle.rel_files.specs.Blocks.{block_of}
use Rattle.rel_files.specs.Relation.{base_of, count_of, size_of}
use Rattle.key_orders.specs.declared.columns.KeySpec.{KeySpec}
use Rattle.key_orders.specs.declared.more.MoreSpec.{MoreSpec}
use Rattle.bt_meta.specs.declared.records.Opaque.{Opaque}
use Rattle.bt_meta.specs.Flags.{is_deleted}
use Rattle.bt_meta.specs.Pages.{is_blank, is_idle, opaque_of}
use Rattle.bt_pages.specs.declared.glance.Glance.{Glance}
use Rattle.bt_pages.specs.declared.tree.TreeRules.{TreeRules}

-- its number in reports, its key columns and included ones, and its blocks by their numbers
pub record Tree : Type 0 where
  pub number : ℕ
  pub specs : List KeySpec
  pub more : List MoreSpec
  pub blocks : ℕ
  pub block : ℕ → List ℕ

-- the index that the code's rules stand for, with what its files hold
abbrev pub tree_seen : Names → TreeRules → Tree
tree_seen names tree = record {
  number = tree.number;
  specs = tree.columns.specs.now;
  more = tree.columns.more.now;
  blocks = count_of tree.relation.now;
  block = block_of names (base_of tree.relation.now) (size_of tree.relation.now);
}

-- a page with these places in its header, and with this special space, is no part of the tree
abbrev pub is_idle_by : (lower upper : ℕ) → Opaque → Bool
is_idle_by lower upper special = (upper == 0) || is_deleted special || is_blank lower special

-- what is read of another page: whether it is no part of the tree, and its special space
abbrev pub glance_of : List ℕ → Glance
glance_of page = record { idle = is_idle page; special = opaque_of page }
