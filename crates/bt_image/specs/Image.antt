-- The pages of an index as a search of its tree sees them: what the bytes of each page, and of the metapage, mean.
use Rattle.std.specs.Prelude.{ℕ, zero, suc, ◌+◌, ◌-◌, Bool, not, ◌==◌, ◌&&◌, nat_lt, if◌then◌else◌, List, [], ◌∷◌, map}
use Rattle.std.specs.Prelude.{Some, None}
use Rattle.std.specs.List.{flat_map}
use Rattle.page_layout.specs.Page.{count_of, item_of}
use Rattle.laws_search.specs.Keys.{Entry, Separator}
use Rattle.laws_search.specs.Search.{tree_blocks}
use Rattle.laws_search.specs.Tree.{Index, Page}
use Rattle.key_orders.specs.declared.columns.KeySpec.{KeySpec}
use Rattle.key_orders.specs.declared.columns.Value.{Value}
use Rattle.key_orders.specs.declared.more.MoreSpec.{MoreSpec}
use Rattle.key_orders.specs.declared.Tid.{Tid}
use Rattle.bt_meta.specs.Flags.{is_half_dead, is_leaf, is_split_unfinished}
use Rattle.bt_meta.specs.Pages.{is_idle, meta_of, opaque_of}
use Rattle.bt_tuples.specs.declared.items.Spot3.{Spot3}
use Rattle.bt_tuples.specs.declared.items.Spot3.TheVariants.{HighKey, FirstInner, Inner, LeafItem}
use Rattle.bt_tuples.specs.Items.{Item, Pivot, Plain, Posting, is_dead, meaning_of}
use Rattle.bt_tuples.specs.Rules.{tuple_of}

-- a page as a search sees it, and an index
abbrev pub TreePage : Type 0
TreePage = Page (Separator Value Tid) (Entry Value Tid)

abbrev pub TreeIndex : Type 0
TreeIndex = Index (Separator Value Tid) (Entry Value Tid)

-- The items of a page

-- a page with a right sibling has a high key, item 1
abbrev pub has_high_key : List ℕ → Bool
has_high_key page = not ((opaque_of page).next == 0)

-- the number of the first data item
abbrev pub first_data : List ℕ → ℕ
first_data page = if has_high_key page then 2 else 1

-- so many numbers, from one on
abbrev pub numbers_from : ℕ → ℕ → List ℕ
numbers_from i zero = []
numbers_from i (suc n) = i ∷ numbers_from (suc i) n

-- the numbers of the data items, rising
abbrev pub data_items : List ℕ → List ℕ
data_items page = numbers_from (first_data page) (count_of page + 1 - first_data page)

-- the place of an item, which says what form it has to have
abbrev pub spot_of : List ℕ → ℕ → Spot3
spot_of page i =
    if nat_lt i (first_data page) then HighKey else if is_leaf (opaque_of page) then LeafItem
    else if i == first_data page then FirstInner else Inner

-- what item i means
unfoldable pub item_at : List KeySpec → List MoreSpec → List ℕ → ℕ → Item
item_at specs more page i = meaning_of specs more (tuple_of page i) (is_dead (item_of page i).flag)

-- what a pivot keeps, and where its downlink leads; other items have neither
abbrev pub minus_infinity : Separator Value Tid
minus_infinity = record { kept = []; tid = None }

abbrev pub separator_in : Item → Separator Value Tid
separator_in (Pivot sep down) = sep
separator_in (Plain key more tid killed) = minus_infinity
separator_in (Posting key tids killed) = minus_infinity

abbrev pub downlink_in : Item → ℕ
downlink_in (Pivot sep down) = down
downlink_in (Plain key more tid killed) = 0
downlink_in (Posting key tids killed) = 0

-- an entry with the values of the included columns, at which no order and no scan looks
pub record LeafEntry : Type 0 where
  pub entry : Entry Value Tid
  pub more : List Value

abbrev pub leaf_entry : (key more : List Value) → Tid → (killed : Bool) → LeafEntry
leaf_entry key more tid killed =
    record { entry = record { values = key; tid = tid; killed = killed }; more = more }

-- the entries of an item, one for each TID
abbrev pub entries_in : Item → List LeafEntry
entries_in (Pivot sep down) = []
entries_in (Plain key more tid killed) = leaf_entry key more tid killed ∷ []
entries_in (Posting key tids killed) = map (λ t. leaf_entry key [] t killed) tids

-- those of a page, in the order of items and of the TIDs in an item
abbrev pub page_entries : List KeySpec → List MoreSpec → List ℕ → List LeafEntry
page_entries specs more page = flat_map (λ i. entries_in (item_at specs more page i)) (data_items page)

-- the same for a search
abbrev pub keys_in : Item → List (Entry Value Tid)
keys_in item = map (λ e. e.entry) (entries_in item)

abbrev pub page_keys : List KeySpec → List MoreSpec → List ℕ → List (Entry Value Tid)
page_keys specs more page = flat_map (λ i. keys_in (item_at specs more page i)) (data_items page)

-- The page

-- what a data item of an internal page leads to, and from which separator on
abbrev pub child_in : Item → Separator Value Tid × ℕ
child_in item = (separator_in item, downlink_in item)

-- A half-dead leaf's high key is not read, and it has no entries.
abbrev pub page_image : List KeySpec → List MoreSpec → List ℕ → TreePage
page_image specs more page = record {
  idle = is_idle page;
  leaf = is_leaf (opaque_of page);
  half_dead = is_half_dead (opaque_of page);
  incomplete_split = is_split_unfinished (opaque_of page);
  prev = (opaque_of page).prev;
  next = (opaque_of page).next;
  level = (opaque_of page).level;
  high_key =
      if has_high_key page && not (is_half_dead (opaque_of page)) then Some (separator_in (item_at specs more page 1))
      else None;
  children =
      if is_leaf (opaque_of page) then [] else map (λ i. child_in (item_at specs more page i)) (data_items page);
  entries =
      if is_leaf (opaque_of page) && not (is_half_dead (opaque_of page)) then page_keys specs more page else [];
}

-- The index

-- the blocks of an index, by their numbers; block 0 is the metapage
abbrev pub index_image : List KeySpec → List MoreSpec → (blocks : ℕ) → (ℕ → List ℕ) → TreeIndex
index_image specs more blocks block = record {
  blocks = blocks;
  page = λ b. page_image specs more (block b);
  root = (meta_of (block 0)).root;
  level = (meta_of (block 0)).level;
  fastroot = (meta_of (block 0)).fastroot;
  fastlevel = (meta_of (block 0)).fastlevel;
}

-- the entries of one leaf that is in use and not half-dead, with their included values
abbrev pub leaf_entries_with_more : List KeySpec → List MoreSpec → List ℕ → List LeafEntry
leaf_entries_with_more specs more page =
    if is_leaf (opaque_of page) && (not (is_idle page) && not (is_half_dead (opaque_of page)))
    then page_entries specs more page else []

-- the entries of an index by block number, linked or not
abbrev pub index_entries : List KeySpec → List MoreSpec → (blocks : ℕ) → (ℕ → List ℕ) → List LeafEntry
index_entries specs more blocks block =
    flat_map (λ b. leaf_entries_with_more specs more (block b)) (tree_blocks blocks)
