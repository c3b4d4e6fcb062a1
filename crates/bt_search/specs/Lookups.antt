-- A look-up of one entry: the way to the leaf on which alone it may stand, and what is found there.
use Rattle.std.specs.Prelude.{◌≡◌, ◌≢◌, ◌==◌, ℕ, ◌+◌, ◌-◌, ◌<◌, true, false, cond, List, Contains, Option, None, Some}
use Rattle.outside.specs.Outside.{Names}
use Rattle.laws_search.specs.Keys.{Entry}
use Rattle.laws_search.specs.Probe.{halves_down, leaf_after}
use Rattle.laws_search.specs.Search.{entries_of}
use Rattle.key_orders.specs.declared.columns.Value.{Value}
use Rattle.key_orders.specs.declared.Tid.{Tid}
use Rattle.bt_meta.specs.Flags.{is_half_dead, is_leaf}
use Rattle.bt_meta.specs.Pages.{is_idle, opaque_of}
use Rattle.bt_levels.specs.declared.sound.SoundTree.{SoundTree}
use Rattle.bt_levels.specs.Sound.{block_count, fastlevel_of, fastroot_of, half_dead_of, held_block, image_of}
use Rattle.bt_levels.specs.Sound.{index_columns, right_halves_of, specs_of}
use Rattle.bt_steps.specs.Sought.{HasSought, IsSought, is_below}
use Rattle.bt_search.specs.declared.spot.Spot.{Spot}

-- the most visits that the way takes: one for each level from the fast root down, and one for each right half on them.
-- In an empty tree there is no way
abbrev pub way_length : Names → SoundTree → ℕ
way_length names sound =
    cond (fastroot_of sound == 0) 0
    ((image_of names sound).fastlevel + 1
    + halves_down (image_of names sound) (image_of names sound).fastlevel
    ((image_of names sound).level - (image_of names sound).fastlevel))

-- more than that, by what the tree itself tells: one for each level from the fast root down, for each right half and
-- for each half-dead leaf of the index, and one more
abbrev pub most_visits : SoundTree → ℕ
most_visits sound = fastlevel_of sound + 1 + right_halves_of sound + half_dead_of sound + 1

-- from a block the way of the entry ends on this leaf, within so many visits
abbrev pub EndsOn : Names → SoundTree → List Value → Tid → (visits block leaf : ℕ) → Type 0
EndsOn names sound key tid visits block leaf =
    leaf_after (image_of names sound) (is_below (specs_of sound) key tid) visits block ≡ Some leaf

-- there is such a leaf, and no other has the entry
pub record HasLeaf (names : Names) (sound : SoundTree) (key : List Value) (tid : Tid) : Type 0 where
  pub leaf : ℕ
  pub soon : EndsOn names sound key tid (way_length names sound) (fastroot_of sound) leaf
  pub inside : EndsOn names sound key tid (block_count sound) (fastroot_of sound) leaf
  pub only : (e : Entry Value Tid) → Contains (entries_of (image_of names sound)) e → IsSought key tid e
      → Contains ((image_of names sound).page leaf).entries e

-- the entry stands at this spot, and isn't killed
pub record IsAtSpot (names : Names) (sound : SoundTree) (key : List Value) (tid : Tid) (at : Spot) : Type 0 where
  pub not_meta : at.block ≢ 0
  pub inside : at.block < block_count sound
  pub used : is_idle (held_block names sound at.block) ≡ false
  pub leaf : is_leaf (opaque_of (held_block names sound at.block)) ≡ true
  pub alive : is_half_dead (opaque_of (held_block names sound at.block)) ≡ false
  pub there : HasSought (index_columns sound) (held_block names sound at.block) key tid at.item at.nth

-- what is told of an entry that is looked up: where it stands, or that each one of its key and its TID is killed
abbrev pub IsLookedUp : Names → SoundTree → List Value → Tid → Option Spot → Type 0
IsLookedUp names sound key tid (Some at) = IsAtSpot names sound key tid at
IsLookedUp names sound key tid None =
    (e : Entry Value Tid) → Contains (entries_of (image_of names sound)) e → IsSought key tid e → e.killed ≡ true
