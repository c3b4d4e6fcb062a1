-- The items that the sorted entries are put into.
use Rattle.std.specs.Prelude.{◌≡◌, ◌≤◌, ◌<◌, ◌+◌, ℕ, zero, suc, List, [], ◌∷◌, length, map, take, drop}
use Rattle.std.specs.List.{AllByRecursion}
use Rattle.key_orders.specs.declared.columns.KeySpec.{KeySpec}
use Rattle.key_orders.specs.declared.more.MoreSpec.{MoreSpec}
use Rattle.bt_image.specs.Image.{LeafEntry}
use Rattle.page_write.specs.Posting.{posting_size}
use Rattle.page_write.specs.Tuples.{index_size}
use Rattle.laws_built_index.specs.Items.{leaf_item}
use Rattle.laws_built_index.specs.Sizes.{items_for}
use Rattle.bt_build.specs.declared.groups.Item.{Item}

-- the bytes of an item with a body of so many, and so many entries beyond its first
abbrev pub size_with : (len more : ℕ) → ℕ
size_with len zero = index_size len
size_with len (suc n) = posting_size len (suc (suc n))

-- the entries of an item, of all entries in order
abbrev pub entries_in : List LeafEntry → Item → List LeafEntry
entries_in es item = take item.count (drop item.first es)

-- its size is that of its bytes, and it has entries
pub record IsItem (specs : List KeySpec) (more : List MoreSpec) (es : List LeafEntry) (item : Item) : Type 0 where
  pub size : item.size ≡ length (leaf_item specs more (entries_in es item))
  pub most : item.size ≤ 2704
  pub some : 0 < item.count
  pub within : item.first + item.count ≤ length es

-- the item that begins with the first of these entries, which is entry `first` of all
pub record IsNextItem (specs : List KeySpec) (more : List MoreSpec) (first : ℕ) (es : List LeafEntry)
    (item : Item) : Type 0 where
  pub first_is : item.first ≡ first
  pub items : items_for specs more es ≡ take item.count es ∷ items_for specs more (drop item.count es)
  pub size : item.size ≡ length (leaf_item specs more (take item.count es))
  pub most : item.size ≤ 2704
  pub some : 0 < item.count
  pub within : item.count ≤ length es

-- items of which each begins where the one before it ends
abbrev pub Follow : (first : ℕ) → List Item → (end : ℕ) → Type 0
Follow first [] end = first ≡ end
Follow first (item ∷ items) end = (item.first ≡ first) × Follow (first + item.count) items end

pub record AreItems (specs : List KeySpec) (more : List MoreSpec) (es : List LeafEntry)
    (items : List Item) : Type 0 where
  pub are : map (entries_in es) items ≡ items_for specs more es
  pub each : AllByRecursion (IsItem specs more es) items
  pub follow : Follow 0 items (length es)
