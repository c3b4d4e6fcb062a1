-- An entry that is sought, and the keys below it.
use Rattle.std.specs.Prelude.{◌≡◌, ◌≤◌, ℕ, false, not, List, Some, slice_get, Contains}
use Rattle.page_layout.specs.Page.{count_of}
use Rattle.std.specs.Ordering.{is_lt}
use Rattle.laws_search.specs.Keys.{Entry, as_separator, compare_keys}
use Rattle.laws_search.specs.Search.{entries_of}
use Rattle.key_orders.specs.declared.columns.KeySpec.{KeySpec}
use Rattle.key_orders.specs.declared.columns.Value.{Value}
use Rattle.key_orders.specs.declared.Tid.{Tid}
use Rattle.key_orders.specs.Keys.{columns_of, entry_of, tid_order}
use Rattle.key_orders.specs.Scans.{order_of}
use Rattle.key_attrs.specs.Columns.{TreeColumns}
use Rattle.bt_image.specs.Image.{TreeIndex, first_data}
use Rattle.bt_steps.specs.Entries.{IsRead, keys_at}
use Rattle.bt_steps.specs.Ways.{Goes}

-- the separator is below the entry with these values and this TID, or isn't above it
abbrev pub is_below : List KeySpec → List Value → Tid → Goes
is_below specs key tid s = not ((order_of specs).within (entry_of key tid) s)

abbrev pub is_within : List KeySpec → List Value → Tid → Goes
is_within specs key tid s = not (is_lt (compare_keys (columns_of specs) tid_order (as_separator (entry_of key tid)) s))

-- an entry of this key and this TID
pub record IsSought (key : List Value) (tid : Tid) (e : Entry Value Tid) : Type 0 where
  pub values : e.values ≡ key
  pub tid_is : e.tid ≡ tid

-- there is one at this place of a page, that of a data item's TID, and it isn't killed
pub record HasSought (columns : TreeColumns) (page : List ℕ) (key : List Value) (tid : Tid)
    (item nth : ℕ) : Type 0 where
  pub from : first_data page ≤ item
  pub last : item ≤ count_of page
  pub read : IsRead columns page item
  pub entry : Entry Value Tid
  pub is : slice_get (keys_at columns page item) nth ≡ Some entry
  pub sought : IsSought key tid entry
  pub alive : entry.killed ≡ false

-- the leaves of an index, linked or not, have such an entry that isn't killed
pub record HasAlive (image : TreeIndex) (key : List Value) (tid : Tid) : Type 0 where
  pub entry : Entry Value Tid
  pub among : Contains (entries_of image) entry
  pub sought : IsSought key tid entry
  pub alive : entry.killed ≡ false
