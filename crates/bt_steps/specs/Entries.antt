-- The entries of a page of a leaf, by its items.
use Rattle.std.specs.Prelude.{◌≡◌, ℕ, ◌+◌, ◌-◌, ◌<◌, ◌≤◌, false, List, length}
use Rattle.std.specs.List.{flat_map}
use Rattle.page_layout.specs.Page.{count_of}
use Rattle.laws_search.specs.Keys.{Entry}
use Rattle.key_orders.specs.declared.columns.Value.{Value}
use Rattle.key_orders.specs.declared.Tid.{Tid}
use Rattle.key_attrs.specs.Columns.{TreeColumns}
use Rattle.bt_tuples.specs.declared.items.Spot3.TheVariants.{LeafItem}
use Rattle.bt_tuples.specs.Rules.{KeepsItemRules, has_packed, tuple_of}
use Rattle.bt_image.specs.Image.{first_data, item_at, keys_in, numbers_from}

-- the entries of item i, one for each TID
unfoldable pub keys_at : TreeColumns → List ℕ → ℕ → List (Entry Value Tid)
keys_at columns page i = keys_in (item_at columns.specs columns.more page i)

-- how many entries the data items before item i have
unfoldable pub entries_before : TreeColumns → List ℕ → ℕ → ℕ
entries_before columns page i =
    length (flat_map (λ k. keys_in (item_at columns.specs columns.more page k))
    (numbers_from (first_data page) (i - first_data page)))

-- the place of an item's nth entry among those of its page; both count from 0
abbrev pub place_of : TreeColumns → List ℕ → (item nth : ℕ) → ℕ
place_of columns page item nth = entries_before columns page item + nth

-- it is the place of an entry of a leaf, or the one behind the last
pub record IsPlaceOn (columns : TreeColumns) (page : List ℕ) (item nth : ℕ) : Type 0 where
  pub from : first_data page ≤ item
  pub to : item ≤ count_of page + 1
  pub inside : item ≤ count_of page → nth < length (keys_at columns page item)
  pub behind : item ≡ count_of page + 1 → nth ≡ 0

-- item i can be read as a data item of a leaf
pub record IsRead (columns : TreeColumns) (page : List ℕ) (i : ℕ) : Type 0 where
  pub rules : KeepsItemRules columns.specs columns.more LeafItem page i
  pub plain : has_packed columns.specs columns.more (tuple_of page i) ≡ false
