-- The levels of a tree: how its pages part the items below them.
use Rattle.std.specs.Prelude.{◌≡◌, ◌≤◌, ◌<◌, ◌+◌, ◌-◌, ⊤, ℕ, suc, List, [], ◌∷◌, length, map, take, drop, get_or}
use Rattle.std.specs.Prelude.{Option, Some, None}
use Rattle.laws_search.specs.Keys.{Separator}
use Rattle.laws_search.specs.Levels.{Downlink}
use Rattle.key_orders.specs.declared.columns.KeySpec.{KeySpec}
use Rattle.key_orders.specs.declared.columns.Value.{Value}
use Rattle.key_orders.specs.declared.Tid.{Tid}
use Rattle.bt_image.specs.Image.{LeafEntry}
use Rattle.laws_building.specs.Built.{Sheet, Splitter, internal_sheet}
use Rattle.laws_building.specs.Seen.{item_splitter, splitter_by}
use Rattle.laws_built_index.specs.Sizes.{entry_in, splitter_of}
use Rattle.bt_build.specs.declared.groups.Item.{Item}
use Rattle.bt_build.specs.declared.levels.Level.{Level}
use Rattle.bt_build.specs.Groups.{entries_in}
use Rattle.bt_build.specs.Pages.{page_counts}
use Rattle.bt_build.specs.Separators.{split_before, split_item}

-- pages of so many items, one at least, part so many items
abbrev pub ArePages : (counts : List ℕ) → (items : ℕ) → Type 0
ArePages [] n = n ≡ 0
ArePages (c ∷ cs) n = (0 < c) × (c ≤ n) × ArePages cs (n - c)

-- what stands at the first item of each page
abbrev pub at_firsts : (counts : List ℕ) → List ℕ → List ℕ
at_firsts [] xs = []
at_firsts (c ∷ cs) xs = get_or xs 0 0 ∷ at_firsts cs (drop c xs)

-- The code's levels

abbrev pub sizes_in : List Item → List ℕ
sizes_in items = map (λ item. item.size + 4) items

abbrev pub firsts_in : List Item → List ℕ
firsts_in items = map (λ item. item.first) items

-- what separators before these entries take on a page
abbrev pub split_sizes : List KeySpec → List LeafEntry → List ℕ → List ℕ
split_sizes specs es bounds = map (λ j. length (split_item specs es j 0) + 4) bounds

-- the leaves of these items
pub record IsLeafLevel (items : List Item) (level : Level) : Type 0 where
  pub number : level.number ≡ 0
  pub first : level.first ≡ 1
  pub counts : level.counts.items ≡ page_counts None 5436 (sizes_in items)
  pub bounds : level.bounds.items ≡ at_firsts level.counts.items (firsts_in items)
  pub pages : ArePages level.counts.items (length items)

-- the level above another, which has no more than half its pages, and one
pub record IsLevelAbove (specs : List KeySpec) (es : List LeafEntry) (below level : Level) : Type 0 where
  pub number : level.number ≡ suc below.number
  pub first : level.first ≡ below.first + length below.bounds.items
  pub counts : level.counts.items ≡ page_counts (Some 12) 5436 (split_sizes specs es below.bounds.items)
  pub bounds : level.bounds.items ≡ at_firsts level.counts.items below.bounds.items
  pub pages : ArePages level.counts.items (length below.bounds.items)
  pub half : length level.bounds.items + length level.bounds.items ≤ suc (length below.bounds.items)

-- each of these levels is above the one before it, until one page is left, before a block
abbrev pub AreAbove : List KeySpec → List LeafEntry → (below : Level) → List Level → (end : ℕ) → Type 0
AreAbove specs es below [] end =
    (length below.bounds.items ≤ 1) × (end ≡ below.first + length below.bounds.items)
AreAbove specs es below (up ∷ ups) end =
    (1 < length below.bounds.items) × IsLevelAbove specs es below up × AreAbove specs es up ups end

abbrev pub AreLevels : List KeySpec → List LeafEntry → List Item → List Level → (end : ℕ) → Type 0
AreLevels specs es items [] end = ⊥
AreLevels specs es items (leaf ∷ ups) end = IsLeafLevel items leaf × AreAbove specs es leaf ups end

-- Their pages

abbrev pub Key : Type 0
Key = Separator Value Tid

abbrev pub ItemSheet : Type 0
ItemSheet = Sheet Key (List LeafEntry)

abbrev pub items_split : List KeySpec → Splitter Key (List LeafEntry)
items_split specs = item_splitter (splitter_by entry_in (splitter_of specs))

abbrev pub lower_of : List KeySpec → List LeafEntry → List Item → Option Key
lower_of specs es [] = None
lower_of specs es (item ∷ items) = split_before specs es item.first

-- the leaves, with so many items each
abbrev pub leaves_by : List KeySpec → List LeafEntry → (counts : List ℕ) → List Item → List ItemSheet
leaves_by specs es [] items = []
leaves_by specs es (n ∷ counts) items =
    record { lower = lower_of specs es items; children = []; entries = map (entries_in es) (take n items) }
    ∷ leaves_by specs es counts (drop n items)

-- downlinks to pages from block b on, with the separators before these entries
abbrev pub downlinks_to : List KeySpec → List LeafEntry → (bounds : List ℕ) → (b : ℕ) → List (Downlink Key)
downlinks_to specs es [] b = []
downlinks_to specs es (j ∷ bounds) b = (split_before specs es j, b) ∷ downlinks_to specs es bounds (suc b)

-- the pages above pages from block b on, with so many downlinks each
abbrev pub inner_by : List KeySpec → List LeafEntry → (counts below : List ℕ) → (b : ℕ) → List ItemSheet
inner_by specs es [] below b = []
inner_by specs es (n ∷ counts) below b =
    internal_sheet (items_split specs) (downlinks_to specs es (take n below) b)
    ∷ inner_by specs es counts (drop n below) (b + n)

abbrev pub sheets_above : List KeySpec → List LeafEntry → (below : Level) → List Level → List (List ItemSheet)
sheets_above specs es below [] = []
sheets_above specs es below (up ∷ ups) =
    inner_by specs es up.counts.items below.bounds.items below.first ∷ sheets_above specs es up ups

abbrev pub sheets_of : List KeySpec → List LeafEntry → List Item → List Level → List (List ItemSheet)
sheets_of specs es items [] = []
sheets_of specs es items (leaf ∷ ups) =
    leaves_by specs es leaf.counts.items items ∷ sheets_above specs es leaf ups

-- the pages begin at these entries
abbrev pub BeginAt : List KeySpec → List LeafEntry → List ItemSheet → (bounds : List ℕ) → Type 0
BeginAt specs es [] [] = ⊤
BeginAt specs es [] (j ∷ bounds) = ⊥
BeginAt specs es (s ∷ sheets) [] = ⊥
BeginAt specs es (s ∷ sheets) (j ∷ bounds) = (s.lower ≡ split_before specs es j) × BeginAt specs es sheets bounds
