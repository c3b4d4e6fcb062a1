-- How the entries of an index are put into items, its items onto pages, and which entries may be.
use Rattle.std.specs.Prelude.{◌≡◌, ◌<◌, ◌≤◌, ◌+◌, true, if◌then◌else◌, List, length, map}
use Rattle.std.specs.List.{All, AllAdjacentBelow}
use Rattle.std.specs.Ordering.{is_eq}
use Rattle.laws_search.specs.Keys.{Entry, Separator, compare_values}
use Rattle.key_orders.specs.declared.columns.KeySpec.{KeySpec}
use Rattle.key_orders.specs.declared.columns.Value.{Value}
use Rattle.key_orders.specs.declared.more.MoreSpec.{MoreSpec}
use Rattle.key_orders.specs.declared.Tid.{Tid}
use Rattle.key_orders.specs.Keys.{columns_of}
use Rattle.key_orders.specs.Scans.{order_of}
use Rattle.bt_tuples.specs.Rules.{includes_some}
use Rattle.bt_image.specs.Image.{LeafEntry}
use Rattle.laws_building.specs.Built.{Splitter, built}
use Rattle.laws_building.specs.Cuts.{fill_pages}
use Rattle.laws_building.specs.Groups.{Grouping, grouped}
use Rattle.laws_building.specs.Seen.{item_splitter, splitter_by}
use Rattle.laws_building.specs.Sized.{Sizes, internal_pages}
use Rattle.laws_building.specs.Splits.{key_splitter}
use Rattle.laws_built_index.specs.Items.{MayBeLaid, leaf_item, pivot_item, plain_item}
use Rattle.laws_built_index.specs.Trees.{ItemTree}

abbrev pub entry_in : LeafEntry → Entry Value Tid
entry_in e = e.entry

-- Items

-- entries of one key share an item, 64 at most and of at most 2704 bytes (BTMaxItemSize). Where columns are included
-- each entry has an item of its own
abbrev pub grouping_of : List KeySpec → List MoreSpec → Grouping LeafEntry
grouping_of specs more = record {
  same_key = λ d e. is_eq (compare_values (columns_of specs) 0 d.entry.values e.entry.values);
  bytes = λ es. length (leaf_item specs more es);
  most_bytes = 2704;
  most_more = if includes_some more then 0 else 63;
}

abbrev pub items_for : List KeySpec → List MoreSpec → List LeafEntry → List (List LeafEntry)
items_for specs more es = grouped (grouping_of specs more) es

-- Pages

-- An item takes its bytes and 4 more. The first item of an internal page has 8 bytes, whatever its separator is
-- elsewhere. All of a page take at most 5436, which leaves room for its header, its special space and a high key of
-- 2712 bytes
abbrev pub sizes_of : List KeySpec → List MoreSpec → Sizes (Separator Value Tid) LeafEntry
sizes_of specs more = record {
  item_size = λ es. 4 + length (leaf_item specs more es);
  pivot_size = λ s. 4 + length (pivot_item specs 0 s);
  first_size = 12;
  budget = 5436;
}

-- The tree

-- a separator keeps as few values of the right entry as it needs
abbrev pub splitter_of : List KeySpec → Splitter (Separator Value Tid) (Entry Value Tid)
splitter_of specs = key_splitter (columns_of specs)

-- the tree of these items
abbrev pub tree_of : List KeySpec → Sizes (Separator Value Tid) LeafEntry → (items : List (List LeafEntry)) → ItemTree
tree_of specs z items =
    built (item_splitter (splitter_by entry_in (splitter_of specs))) (internal_pages z)
    (fill_pages z.item_size z.item_size z.budget items)

-- the tree of these entries
abbrev pub index_tree : List KeySpec → List MoreSpec → List LeafEntry → ItemTree
index_tree specs more es = tree_of specs (sizes_of specs more) (items_for specs more es)

-- Entries that may be indexed: each may be laid, no key is too large, and they rise
pub record AreIndexable (specs : List KeySpec) (more : List MoreSpec) (es : List LeafEntry) : Type 0 where
  pub columns : 0 < length specs
  pub each : All (MayBeLaid specs more) es
  pub small : All (λ e. length (plain_item specs more e.entry e.more) ≤ 2704) es
  pub rising : AllAdjacentBelow (λ d e. (order_of specs).precedes d e ≡ true) (map entry_in es)
      (length (map entry_in es))
