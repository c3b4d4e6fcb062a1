-- What comes of building an index: its bytes, or why there are none.
use Rattle.std.specs.Prelude.{◌≡◌, ◌≤◌, ◌<◌, ◌-◌, ℕ, zero, suc, Bool, nat_lt, if◌then◌else◌}
use Rattle.std.specs.Prelude.{List, [], ◌∷◌, ◌++◌, length}
use Rattle.std.specs.Prelude.{Option, Some, None, Result, Ok, Err}
use Rattle.std.specs.List.{filter}
use Rattle.std.specs.Ordering.{is_lt}
use Rattle.key_orders.specs.declared.columns.KeySpec.{KeySpec}
use Rattle.key_orders.specs.declared.more.MoreSpec.{MoreSpec}
use Rattle.key_orders.specs.declared.Tid.{Tid}
use Rattle.key_orders.specs.Keys.{tid_order}
use Rattle.bt_meta.specs.declared.records.Meta.{Meta}
use Rattle.bt_image.specs.Image.{LeafEntry}
use Rattle.laws_built_index.specs.Items.{plain_item, tids_of}
use Rattle.laws_built_index.specs.Sizes.{AreIndexable, index_tree}
use Rattle.laws_built_index.specs.Trees.{ItemTree, built_block}
use Rattle.bt_build.specs.declared.build.BuiltTree.{BuiltTree}
use Rattle.bt_build.specs.declared.fault.IndexFault.{IndexFault}
use Rattle.bt_build.specs.declared.fault.IndexFault.TheVariants.{KeyTooLarge, TooManyBlocks, NoMemory}
use Rattle.bt_build.specs.Listed.{Listed}
use Rattle.bt_build.specs.Order.{in_order}

-- Keys that are too large

-- as an item of its own the entry would have more than 2704 bytes (BTMaxItemSize)
abbrev pub is_too_large : List KeySpec → List MoreSpec → LeafEntry → Bool
is_too_large specs more e = nat_lt 2704 (length (plain_item specs more e.entry e.more))

-- the lower of a TID and one that there may be
abbrev pub lower_tid : Tid → Option Tid → Tid
lower_tid t None = t
lower_tid t (Some u) = if is_lt (tid_order u t) then u else t

-- the lowest of these
abbrev pub lowest_tid : List Tid → Option Tid
lowest_tid [] = None
lowest_tid (t ∷ ts) = Some (lower_tid t (lowest_tid ts))

-- the lowest TID of an entry that is too large
abbrev pub large_among : List KeySpec → List MoreSpec → List LeafEntry → Option Tid
large_among specs more es = lowest_tid (tids_of (filter (is_too_large specs more) es))

abbrev pub large_tid : Listed → Option Tid
large_tid l = large_among l.specs l.more l.entries

-- The index

-- the tree of all entries
abbrev pub tree_for : Listed → ItemTree
tree_for l = index_tree l.specs l.more (in_order l.specs l.entries)

-- the first n blocks of a tree, one behind the other
abbrev pub blocks_below : List KeySpec → List MoreSpec → ItemTree → (n : ℕ) → List ℕ
blocks_below specs more x zero = []
blocks_below specs more x (suc n) = blocks_below specs more x n ++ built_block specs more x n

-- its bytes
abbrev pub index_bytes : Listed → List ℕ
index_bytes l = blocks_below l.specs l.more (tree_for l) (tree_for l).blocks

-- entries that in order may be indexed, so that the laws of laws_built_index hold of their tree
abbrev pub MayBeIndexed : Listed → Type 0
MayBeIndexed l = AreIndexable l.specs l.more (in_order l.specs l.entries)

-- the number of blocks of a tree that was built, and their bytes
abbrev pub blocks_in : BuiltTree → ℕ
blocks_in tree = tree.blocks

abbrev pub bytes_in : BuiltTree → List ℕ
bytes_in tree = tree.bytes.items

-- the words of a metapage of a tree of so many blocks and levels, of which the last block is the root
abbrev pub meta_for : (blocks levels : ℕ) → Meta
meta_for blocks levels = record {
  magic = 0x00053162;
  version = 4;
  root = blocks - 1;
  level = levels - 1;
  fastroot = blocks - 1;
  fastlevel = levels - 1;
}

-- what is known of the index of entries in order, of which no key is too large
pub record IsTreeOf (specs : List KeySpec) (more : List MoreSpec) (es : List LeafEntry) (tree : BuiltTree)
    : Type 0 where
  pub few : (index_tree specs more es).blocks ≤ 65536
  pub blocks : blocks_in tree ≡ (index_tree specs more es).blocks
  pub bytes : bytes_in tree
      ≡ blocks_below specs more (index_tree specs more es) (index_tree specs more es).blocks

abbrev pub IsTreeAnswer : List KeySpec → List MoreSpec → List LeafEntry → Result BuiltTree IndexFault → Type 0
IsTreeAnswer specs more es (Ok tree) = IsTreeOf specs more es tree
IsTreeAnswer specs more es (Err (KeyTooLarge tid)) = ⊥
IsTreeAnswer specs more es (Err (TooManyBlocks blocks)) =
    (blocks ≡ (index_tree specs more es).blocks) × (65536 < blocks)
IsTreeAnswer specs more es (Err NoMemory) = Unit {0}

-- no key is too large, the entries in order may be indexed, there are at most 65536 blocks, and these are they
pub record IsBuilt (l : Listed) (tree : BuiltTree) : Type 0 where
  pub small : large_tid l ≡ None
  pub indexable : MayBeIndexed l
  pub few : (tree_for l).blocks ≤ 65536
  pub blocks : blocks_in tree ≡ (tree_for l).blocks
  pub bytes : bytes_in tree ≡ index_bytes l

-- no key is too large, and there are so many blocks, which are more
pub record HasTooMany (l : Listed) (blocks : ℕ) : Type 0 where
  pub small : large_tid l ≡ None
  pub count : blocks ≡ (tree_for l).blocks
  pub many : 65536 < blocks

-- nothing is said of a call that lacks memory
abbrev pub IsAnswer : Listed → Result BuiltTree IndexFault → Type 0
IsAnswer l (Ok tree) = IsBuilt l tree
IsAnswer l (Err (KeyTooLarge tid)) = large_tid l ≡ Some tid
IsAnswer l (Err (TooManyBlocks blocks)) = HasTooMany l blocks
IsAnswer l (Err NoMemory) = Unit {0}
