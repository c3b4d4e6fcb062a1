-- The entries of an index, and what they may name in the heap.
use Rattle.std.specs.Prelude.{◌≡◌, ℕ, ◌<◌, ◌≤◌, Bool, true, false, not, ◌&&◌, nat_lt, List, Contains}
use Rattle.std.specs.List.{list_any}
use Rattle.outside.specs.Outside.{Names}
use Rattle.laws_search.specs.Keys.{Entry}
use Rattle.key_attrs.specs.Columns.{TreeColumns}
use Rattle.key_orders.specs.declared.columns.Value.{Value}
use Rattle.key_orders.specs.declared.Tid.{Tid}
use Rattle.key_storage.specs.Same.{same_key}
use Rattle.case_file.specs.Record.{CaseRecord}
use Rattle.bt_image.specs.Image.{LeafEntry, index_entries, item_at, keys_in}
use Rattle.bt_image.specs.Pages.{IsDataItem}
use Rattle.bt_pages.specs.Trees.{Tree}
use Rattle.bt_steps.specs.Pages.{is_live_leaf}
use Rattle.bt_steps.specs.Sought.{IsSought}
use Rattle.join_slots.specs.Met.{same_tid}
use Rattle.heap_targets.specs.Targets.{is_target}
use Rattle.heap_table_check.specs.Case.{heap_blocks, heap_page}

-- Unkilled entries

-- the entries of an index, by block, item and place in the item
abbrev pub tree_entries : Tree → List LeafEntry
tree_entries tree = index_entries tree.specs tree.more tree.blocks tree.block

-- among these is one with this key, these included values and this TID that isn't killed
pub record HasAlive (entries : List LeafEntry) (key more : List Value) (tid : Tid) : Type 0 where
  pub entry : LeafEntry
  pub among : Contains entries entry
  pub sought : IsSought key tid entry.entry
  pub included : entry.more ≡ more
  pub alive : entry.entry.killed ≡ false

-- the entry has this key and this TID, and isn't killed; as a test
abbrev pub is_alive : (key : List Value) → Tid → Entry Value Tid → Bool
is_alive key tid e = (same_tid tid e.tid && same_key key e.values) && not e.killed

-- and it has these included values
abbrev pub is_alive_of : (key more : List Value) → Tid → LeafEntry → Bool
is_alive_of key more tid e = is_alive key tid e.entry && same_key more e.more

-- among these is such a one
unfoldable pub has_alive : List LeafEntry → (key more : List Value) → Tid → Bool
has_alive entries key more tid = list_any (is_alive_of key more tid) entries

-- Where entries stand

-- the entry stands at item i of block b of an index with so many blocks, killed or not
pub record IsEntryAt (columns : TreeColumns) (blocks : ℕ) (block : ℕ → List ℕ) (b i : ℕ)
    (e : Entry Value Tid) : Type 0 where
  pub not_meta : 1 ≤ b
  pub inside : b < blocks
  pub leaf : is_live_leaf (block b) ≡ true
  pub item : IsDataItem (block b) i
  pub entry : Contains (keys_in (item_at columns.specs columns.more (block b) i)) e

-- What entries may name

-- the place is that of a line pointer of the heap that is a redirect, is dead, or is that of a tuple that isn't
-- heap-only
abbrev pub may_be_named : CaseRecord → Names → Tid → Bool
may_be_named case names tid =
    nat_lt tid.block (heap_blocks case names) && is_target (heap_page case names tid.block) tid.item
