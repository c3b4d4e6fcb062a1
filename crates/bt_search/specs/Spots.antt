-- A reader's spot on the leaves of an index: where it may stand, and what is left for a scan from there on.
use Rattle.std.specs.Prelude.{◌≡◌, ◌≢◌, ℕ, ◌==◌, cond, List, [], ◌∷◌, Some, None, Option}
use Rattle.outside.specs.Outside.{Names}
use Rattle.laws_search.specs.Keys.{Entry}
use Rattle.laws_search.specs.Search.{State, Ended}
use Rattle.laws_search.specs.Spots.{Stands, from_place, left_of, rest_of}
use Rattle.key_orders.specs.declared.columns.Value.{Value}
use Rattle.key_orders.specs.declared.Tid.{Tid}
use Rattle.key_orders.specs.Scans.{Bounds, scan_of}
use Rattle.bt_levels.specs.declared.sound.SoundTree.{SoundTree}
use Rattle.bt_levels.specs.Sound.{fastroot_of, held_block, image_of, index_columns, specs_of}
use Rattle.bt_search.specs.declared.spot.Spot.{Spot}
use Rattle.bt_steps.specs.Entries.{IsPlaceOn, place_of}
use Rattle.bt_search.specs.Entries.{IsEntryAt, entry_on}
use Rattle.bt_steps.specs.Pages.{KeyScan, is_killed}

-- a scan of an index
abbrev pub scan_on : SoundTree → Bounds → KeyScan
scan_on sound bounds = scan_of (specs_of sound) bounds

-- the place of a spot among the entries of its page
abbrev pub place_in : Names → SoundTree → Spot → ℕ
place_in names sound spot = place_of (index_columns sound) (held_block names sound spot.block) spot.item spot.nth

-- The spot stands at the scan. One of block 0 does where the tree is empty. Any other does where the searcher comes to
-- its page and reads it, the spot is a place on it, and no entry before that is past the high bound; and the page in
-- hand is this one.
pub record StandsAt (names : Names) (sound : SoundTree) (bounds : Bounds) (spot : Spot) (page : List ℕ) : Type 0 where
  pub nowhere : spot.block ≡ 0 → fastroot_of sound ≡ 0
  pub in_hand : spot.block ≢ 0 → page ≡ held_block names sound spot.block
  pub place : spot.block ≢ 0 → IsPlaceOn (index_columns sound) (held_block names sound spot.block) spot.item spot.nth
  pub comes : spot.block ≢ 0
      → Stands is_killed (image_of names sound) (scan_on sound bounds) spot.block (place_in names sound spot)

-- the searcher's state there: it has ended in an empty tree, else it reads the page from the place on
unfoldable pub state_at : Names → SoundTree → Bounds → Spot → State (Entry Value Tid)
state_at names sound bounds spot =
    cond (spot.block == 0) (Ended [])
    (from_place is_killed (image_of names sound) (scan_on sound bounds) spot.block (place_in names sound spot))

-- what the searcher yields from a state on, and by how many more visits it has ended
abbrev pub rest_from : Names → SoundTree → Bounds → State (Entry Value Tid) → List (Entry Value Tid)
rest_from names sound bounds s = rest_of is_killed (image_of names sound) (scan_on sound bounds) s

abbrev pub left_from : Names → SoundTree → Bounds → State (Entry Value Tid) → ℕ
left_from names sound bounds s = left_of is_killed (image_of names sound) (scan_on sound bounds) s

-- the same from a spot on
abbrev pub rest_at : Names → SoundTree → Bounds → Spot → List (Entry Value Tid)
rest_at names sound bounds spot = rest_from names sound bounds (state_at names sound bounds spot)

abbrev pub left_at : Names → SoundTree → Bounds → Spot → ℕ
left_at names sound bounds spot = left_from names sound bounds (state_at names sound bounds spot)

-- an entry is read at this place of the page; it is the first of what was left, and the others are left now
pub record Takes (names : Names) (sound : SoundTree) (bounds : Bounds) (old new at : Spot) (page : List ℕ)
    : Type 0 where
  pub entry : Entry Value Tid
  pub read : IsEntryAt (index_columns sound) page at
  pub is : entry_on (index_columns sound) page at ≡ Some entry
  pub in_hand : page ≡ held_block names sound at.block
  pub first : rest_at names sound bounds old ≡ entry ∷ rest_at names sound bounds new

-- what is told of the next entry: there is none where nothing was left, and else it is the first of that
abbrev pub IsNext : Names → SoundTree → Bounds → (old new : Spot) → List ℕ → Option Spot → Type 0
IsNext names sound bounds old new page None =
    (rest_at names sound bounds old ≡ []) × (rest_at names sound bounds new ≡ [])
IsNext names sound bounds old new page (Some at) = Takes names sound bounds old new at page
