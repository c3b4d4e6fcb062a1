-- What a reader finds on a leaf.
use Rattle.std.specs.Prelude.{◌≡◌, ℕ, List, [], ◌∷◌, Some}
use Rattle.outside.specs.Outside.{Names}
use Rattle.laws_search.specs.Keys.{Entry}
use Rattle.laws_search.specs.Search.{At}
use Rattle.key_orders.specs.declared.columns.Value.{Value}
use Rattle.key_orders.specs.declared.Tid.{Tid}
use Rattle.key_orders.specs.Scans.{Bounds}
use Rattle.bt_levels.specs.declared.sound.SoundTree.{SoundTree}
use Rattle.bt_levels.specs.Sound.{index_columns}
use Rattle.bt_search.specs.declared.leaf.OnLeaf.{OnLeaf}
use Rattle.bt_search.specs.declared.leaf.OnLeaf.TheVariants as found
use Rattle.bt_search.specs.declared.leaf.OnItem.{OnItem}
use Rattle.bt_search.specs.declared.leaf.OnItem.TheVariants as on
use Rattle.bt_search.specs.declared.spot.Spot.{Spot}
use Rattle.bt_search.specs.Descents.{ComesTo}
use Rattle.bt_search.specs.Entries.{entry_on}
use Rattle.bt_search.specs.Spots.{StandsAt, left_at, left_from, rest_at, rest_from}

-- a reader went on from one spot of a page to another: what is left is the same
pub record Passes (names : Names) (sound : SoundTree) (bounds : Bounds) (old new : Spot) (page : List ℕ) : Type 0 where
  pub stands : StandsAt names sound bounds new page
  pub rest : rest_at names sound bounds old ≡ rest_at names sound bounds new
  pub left : left_at names sound bounds old ≡ left_at names sound bounds new

-- it took an entry, which was the first that was left
pub record Yields (names : Names) (sound : SoundTree) (bounds : Bounds) (old new at : Spot) (page : List ℕ)
    : Type 0 where
  pub stands : StandsAt names sound bounds new page
  pub entry : Entry Value Tid
  pub is : entry_on (index_columns sound) page at ≡ Some entry
  pub rest : rest_at names sound bounds old ≡ entry ∷ rest_at names sound bounds new
  pub left : left_at names sound bounds old ≡ left_at names sound bounds new

-- it found that nothing is left, and by no visit
pub record Finishes (names : Names) (sound : SoundTree) (bounds : Bounds) (old new : Spot) (page : List ℕ)
    : Type 0 where
  pub stands : StandsAt names sound bounds new page
  pub rest : rest_at names sound bounds old ≡ []
  pub left : left_at names sound bounds old ≡ 0
  pub new_rest : rest_at names sound bounds new ≡ []
  pub new_left : left_at names sound bounds new ≡ 0

-- what is left is what the right sibling leads to
pub record Leaves (names : Names) (sound : SoundTree) (bounds : Bounds) (old : Spot) (next : ℕ) : Type 0 where
  pub comes : ComesTo names sound bounds next
  pub rest : rest_at names sound bounds old ≡ rest_from names sound bounds (At next [])
  pub left : left_at names sound bounds old ≡ left_from names sound bounds (At next [])

-- what is told of one item of a leaf
abbrev pub TellsItem : Names → SoundTree → Bounds → (old new : Spot) → List ℕ → OnItem → Type 0
TellsItem names sound bounds old new page (on.Entry at) = Yields names sound bounds old new at page
TellsItem names sound bounds old new page on.End = Finishes names sound bounds old new page
TellsItem names sound bounds old new page on.Passed = Passes names sound bounds old new page
TellsItem names sound bounds old new page on.Lost = ⊥

-- what is told of a leaf, from a spot on
abbrev pub TellsLeaf : Names → SoundTree → Bounds → (old new : Spot) → List ℕ → OnLeaf → Type 0
TellsLeaf names sound bounds old new page (found.Entry at) = Yields names sound bounds old new at page
TellsLeaf names sound bounds old new page found.End = Finishes names sound bounds old new page
TellsLeaf names sound bounds old new page (found.Right next) = Leaves names sound bounds old next
