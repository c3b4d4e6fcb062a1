-- A reader's spot on the leaves of an index, from the last entry down: where it may stand, and what is left for a scan
-- from there on. Item 0 stands before the first entry of its page.
use Rattle.std.specs.Prelude.{◌≡◌, ◌≢◌, ◌<◌, ◌≤◌, ℕ, ◌+◌, ◌==◌, cond, length, List, [], ◌∷◌, Some, None, Option}
use Rattle.outside.specs.Outside.{Names}
use Rattle.page_layout.specs.Page.{count_of}
use Rattle.laws_search.specs.Back.{BackState, Over}
use Rattle.laws_search.specs.Keys.{Entry}
use Rattle.laws_back_search.specs.Spots.{GoesLeftTo, SeeksAt, StandsBack, from_place_back, left_back, rest_back}
use Rattle.key_orders.specs.declared.columns.Value.{Value}
use Rattle.key_orders.specs.declared.Tid.{Tid}
use Rattle.key_orders.specs.Scans.{Bounds}
use Rattle.key_attrs.specs.Columns.{TreeColumns}
use Rattle.bt_image.specs.Image.{first_data}
use Rattle.bt_levels.specs.declared.sound.SoundTree.{SoundTree}
use Rattle.bt_levels.specs.Sound.{fastroot_of, held_block, image_of, index_columns}
use Rattle.bt_steps.specs.Entries.{keys_at, place_of}
use Rattle.bt_steps.specs.Pages.{is_killed}
use Rattle.bt_search.specs.declared.spot.Spot.{Spot}
use Rattle.bt_search.specs.Entries.{IsEntryAt, entry_on}
use Rattle.bt_search.specs.Items.{back_on}
use Rattle.bt_search.specs.Spots.{scan_on}

-- how many entries of a page are left at an item's nth: that one and those before it; at item 0 none
abbrev pub left_on : TreeColumns → List ℕ → (item nth : ℕ) → ℕ
left_on columns page item nth = cond (item == 0) 0 (place_of columns page item nth + 1)

-- it is the place of an entry of a leaf, or item 0
pub record IsBackPlace (columns : TreeColumns) (page : List ℕ) (item nth : ℕ) : Type 0 where
  pub front : item ≡ 0 → nth ≡ 0
  pub from : item ≢ 0 → first_data page ≤ item
  pub last : item ≢ 0 → item ≤ count_of page
  pub inside : item ≢ 0 → nth < length (keys_at columns page item)

-- the entries of its page that are left at a spot
abbrev pub left_in : Names → SoundTree → Spot → ℕ
left_in names sound spot = left_on (index_columns sound) (held_block names sound spot.block) spot.item spot.nth

-- The spot stands at the scan. One of block 0 does where the tree is empty. Any other does where the second phase of
-- the backward searcher reads its page, the spot is a place on it, and no entry behind that is before the low bound;
-- and the page in hand is this one.
pub record StandsAt (names : Names) (sound : SoundTree) (bounds : Bounds) (spot : Spot) (page : List ℕ) : Type 0 where
  pub nowhere : spot.block ≡ 0 → fastroot_of sound ≡ 0
  pub in_hand : spot.block ≢ 0 → page ≡ held_block names sound spot.block
  pub place : spot.block ≢ 0 → IsBackPlace (index_columns sound) (held_block names sound spot.block) spot.item spot.nth
  pub comes : spot.block ≢ 0
      → StandsBack is_killed (image_of names sound) (scan_on sound bounds) (back_on sound bounds) spot.block
      (left_in names sound spot)

-- the searcher's state there: it has ended in an empty tree, else it reads the page from the place down
unfoldable pub state_at : Names → SoundTree → Bounds → Spot → BackState (Entry Value Tid)
state_at names sound bounds spot =
    cond (spot.block == 0) (Over [])
    (from_place_back is_killed (image_of names sound) (scan_on sound bounds) (back_on sound bounds) spot.block
    (left_in names sound spot))

-- what the searcher appends from a state on, and by how many more visits it has ended
abbrev pub rest_from : Names → SoundTree → Bounds → BackState (Entry Value Tid) → List (Entry Value Tid)
rest_from names sound bounds s =
    rest_back is_killed (image_of names sound) (scan_on sound bounds) (back_on sound bounds) s

abbrev pub left_from : Names → SoundTree → Bounds → BackState (Entry Value Tid) → ℕ
left_from names sound bounds s =
    left_back is_killed (image_of names sound) (scan_on sound bounds) (back_on sound bounds) s

-- the same from a spot on
abbrev pub rest_at : Names → SoundTree → Bounds → Spot → List (Entry Value Tid)
rest_at names sound bounds spot = rest_from names sound bounds (state_at names sound bounds spot)

abbrev pub left_at : Names → SoundTree → Bounds → Spot → ℕ
left_at names sound bounds spot = left_from names sound bounds (state_at names sound bounds spot)

-- the first phase comes to this block, or the second goes left to it
abbrev pub SeeksTo : Names → SoundTree → Bounds → ℕ → Type 0
SeeksTo names sound bounds b =
    SeeksAt is_killed (image_of names sound) (scan_on sound bounds) (back_on sound bounds) b

abbrev pub LeftTo : Names → SoundTree → Bounds → ℕ → Type 0
LeftTo names sound bounds b =
    GoesLeftTo is_killed (image_of names sound) (scan_on sound bounds) (back_on sound bounds) b

-- One state leads to another by visits that raise a count: what is left is the same, and each visit is one less.
pub record GoesOn (names : Names) (sound : SoundTree) (bounds : Bounds) (from to : BackState (Entry Value Tid))
    (before now : ℕ) : Type 0 where
  pub rest : rest_from names sound bounds from ≡ rest_from names sound bounds to
  pub left : before + left_from names sound bounds from ≡ now + left_from names sound bounds to

-- an entry is read at this place of the page; it is the first of what was left, and the others are left now
pub record Takes (names : Names) (sound : SoundTree) (bounds : Bounds) (old new at : Spot) (page : List ℕ)
    : Type 0 where
  pub entry : Entry Value Tid
  pub read : IsEntryAt (index_columns sound) page at
  pub is : entry_on (index_columns sound) page at ≡ Some entry
  pub in_hand : page ≡ held_block names sound at.block
  pub first : rest_at names sound bounds old ≡ entry ∷ rest_at names sound bounds new

-- what is told of the next entry: there is none where nothing was left, and else it is the first of that
abbrev pub IsNext : Names → SoundTree → Bounds → (old new : Spot) → List ℕ → Option Spot → Type 0
IsNext names sound bounds old new page None =
    (rest_at names sound bounds old ≡ []) × (rest_at names sound bounds new ≡ [])
IsNext names sound bounds old new page (Some at) = Takes names sound bounds old new at page
