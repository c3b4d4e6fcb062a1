-- What a reader finds on a leaf, from a spot down.
use Rattle.std.specs.Prelude.{◌≡◌, ℕ, ◌+◌, ◌<◌, ◌≤◌, length, List, [], ◌∷◌, Some}
use Rattle.outside.specs.Outside.{Names}
use Rattle.laws_search.specs.Back.{Reads}
use Rattle.laws_search.specs.Keys.{Entry}
use Rattle.key_orders.specs.declared.columns.Value.{Value}
use Rattle.key_orders.specs.declared.Tid.{Tid}
use Rattle.key_orders.specs.Scans.{Bounds}
use Rattle.key_attrs.specs.Columns.{TreeColumns}
use Rattle.bt_image.specs.Image.{first_data}
use Rattle.bt_levels.specs.declared.sound.SoundTree.{SoundTree}
use Rattle.bt_levels.specs.Sound.{index_columns}
use Rattle.bt_steps.specs.Entries.{IsRead, keys_at}
use Rattle.bt_search.specs.declared.spot.Spot.{Spot}
use Rattle.bt_search.specs.Entries.{entry_on}
use Rattle.back_scan.specs.declared.leaf.OnItem.{OnItem}
use Rattle.back_scan.specs.declared.leaf.OnItem.TheVariants as on
use Rattle.back_scan.specs.declared.leaf.OnLeaf.{OnLeaf}
use Rattle.back_scan.specs.declared.leaf.OnLeaf.TheVariants as found
use Rattle.back_scan.specs.Spots.{LeftTo, StandsAt, left_at, left_from, rest_at, rest_from}

-- item i can be read, and has entries
pub record HasEntries (columns : TreeColumns) (page : List ℕ) (i : ℕ) : Type 0 where
  pub read : IsRead columns page i
  pub some : 1 ≤ length (keys_at columns page i)

-- the spot of the last entry of the items up to i, or item 0 where these are no data items
pub record IsLastUpTo (columns : TreeColumns) (page : List ℕ) (i : ℕ) (spot : Spot) : Type 0 where
  pub front : i < first_data page → (spot.item ≡ 0) × (spot.nth ≡ 0)
  pub entry : first_data page ≤ i → (spot.item ≡ i) × (spot.nth + 1 ≡ length (keys_at columns page i))

-- the same, if the item can be read
abbrev pub IsLastIfRead : TreeColumns → List ℕ → ℕ → Spot → Type 0
IsLastIfRead columns page i spot = (first_data page ≤ i → HasEntries columns page i) → IsLastUpTo columns page i spot

-- a reader went on from one spot of a page to another: what is left is the same
pub record Passes (names : Names) (sound : SoundTree) (bounds : Bounds) (old new : Spot) (page : List ℕ) : Type 0 where
  pub stands : StandsAt names sound bounds new page
  pub rest : rest_at names sound bounds old ≡ rest_at names sound bounds new
  pub left : left_at names sound bounds old ≡ left_at names sound bounds new

-- it took an entry, which was the first that was left
pub record Yields (names : Names) (sound : SoundTree) (bounds : Bounds) (old new at : Spot) (page : List ℕ)
    : Type 0 where
  pub stands : StandsAt names sound bounds new page
  pub entry : Entry Value Tid
  pub is : entry_on (index_columns sound) page at ≡ Some entry
  pub rest : rest_at names sound bounds old ≡ entry ∷ rest_at names sound bounds new
  pub left : left_at names sound bounds old ≡ left_at names sound bounds new

-- it found that nothing is left, and by no visit
pub record Finishes (names : Names) (sound : SoundTree) (bounds : Bounds) (old new : Spot) (page : List ℕ)
    : Type 0 where
  pub stands : StandsAt names sound bounds new page
  pub rest : rest_at names sound bounds old ≡ []
  pub left : left_at names sound bounds old ≡ 0
  pub new_rest : rest_at names sound bounds new ≡ []
  pub new_left : left_at names sound bounds new ≡ 0

-- what is left is what the left sibling leads to
pub record Leaves (names : Names) (sound : SoundTree) (bounds : Bounds) (old : Spot) (prev : ℕ) : Type 0 where
  pub comes : LeftTo names sound bounds prev
  pub rest : rest_at names sound bounds old ≡ rest_from names sound bounds (Reads prev [])
  pub left : left_at names sound bounds old ≡ left_from names sound bounds (Reads prev [])

-- what is told of one item of a leaf
abbrev pub TellsItem : Names → SoundTree → Bounds → (old new : Spot) → List ℕ → OnItem → Type 0
TellsItem names sound bounds old new page (on.Entry at) = Yields names sound bounds old new at page
TellsItem names sound bounds old new page on.End = Finishes names sound bounds old new page
TellsItem names sound bounds old new page on.Passed = Passes names sound bounds old new page
TellsItem names sound bounds old new page on.Lost = ⊥

-- what is told of a leaf, from a spot down
abbrev pub TellsLeaf : Names → SoundTree → Bounds → (old new : Spot) → List ℕ → OnLeaf → Type 0
TellsLeaf names sound bounds old new page (found.Entry at) = Yields names sound bounds old new at page
TellsLeaf names sound bounds old new page found.End = Finishes names sound bounds old new page
TellsLeaf names sound bounds old new page (found.Left prev) = Leaves names sound bounds old prev
