-- How the keys of a leaf's data items stand to each other, item by item.
use Rattle.std.specs.Prelude.{◌≡◌, ◌≢◌, ◌+◌, ◌<◌, ◌≤◌, ℕ, if◌then◌else◌, List, [], ◌∷◌, ⊤}
use Rattle.laws_search.specs.Keys.{Entry}
use Rattle.key_orders.specs.declared.columns.Value.{Value}
use Rattle.key_orders.specs.declared.Tid.{Tid}
use Rattle.key_orders.specs.Keys.{IsKey}
use Rattle.key_attrs.specs.Columns.{TreeColumns}
use Rattle.bt_tuples.specs.declared.keys.ItemKeys.{ItemKeys}
use Rattle.bt_tuples.specs.Items.{Item}
use Rattle.bt_tuples.specs.Keys.{first_key}
use Rattle.bt_tuples.specs.Plain.{IsPlainEntry}
use Rattle.bt_image.specs.Image.{first_data, item_at, keys_in}
use Rattle.join_distinct.specs.declared.differ.Pair.{Pair}
use Rattle.join_distinct.specs.declared.rising.Rise.{Rise}
use Rattle.join_distinct.specs.declared.rising.Rise.TheVariants.{Begins, Rises, Untold}

-- an item has one entry
pub record HasOne (item : Item) : Type 0 where
  pub entry : Entry Value Tid
  pub is : keys_in item ≡ entry ∷ []

-- the values of an item's entries
abbrev pub values_in : Item → List Value
values_in item = (first_key item).kept

-- item i of a page
abbrev pub item_on : TreeColumns → List ℕ → (i : ℕ) → Item
item_on columns page i = item_at columns.specs columns.more page i

-- the data items up to item n have one entry each, and no two that stand side by side have the same values
pub record DifferTo (columns : TreeColumns) (page : List ℕ) (n : ℕ) : Type 0 where
  pub one : (i : ℕ) → first_data page ≤ i → i ≤ n → HasOne (item_on columns page i)
  pub other : (i : ℕ) → first_data page ≤ i → i < n
      → values_in (item_on columns page i) ≢ values_in (item_on columns page (i + 1))

-- By the numbers of their first values

-- what is so of the data items up to item n
abbrev pub RisesTo : TreeColumns → List ℕ → (n : ℕ) → Rise → Type 0
RisesTo columns page n Begins = n < first_data page
RisesTo columns page n (Rises last) =
    (first_data page ≤ n) × DifferTo columns page n × IsPlainEntry columns.specs columns.more page n last
RisesTo columns page n Untold = ⊤

-- By all their values

-- item i of a leaf has one entry, whose values these are
pub record HasEntry (columns : TreeColumns) (page : List ℕ) (i : ℕ) (keys : ItemKeys) : Type 0 where
  pub one : HasOne (item_on columns page i)
  pub values : keys.first.kept ≡ values_in (item_on columns page i)
  pub fits : IsKey columns.specs keys.first.kept

-- so it is, and item i - 1 has others
pub record HasOther (columns : TreeColumns) (page : List ℕ) (i : ℕ) (before keys : ItemKeys) : Type 0 where
  pub entry : HasEntry columns page i keys
  pub other : before.first.kept ≢ keys.first.kept

-- the keys of the item that was read last
abbrev pub held : Pair → ItemKeys
held pair = if pair.is_right then pair.right else pair.left
