-- What visits to pages lead to.
use Rattle.std.specs.Prelude.{◌≡◌, ℕ, ◌+◌, List}
use Rattle.outside.specs.Outside.{Names}
use Rattle.laws_search.specs.Keys.{Entry, goes_right}
use Rattle.laws_search.specs.Search.{State}
use Rattle.laws_search.specs.Spots.{IsVisited}
use Rattle.key_orders.specs.declared.columns.KeySpec.{KeySpec}
use Rattle.key_orders.specs.declared.columns.Value.{Value}
use Rattle.key_orders.specs.declared.Tid.{Tid}
use Rattle.key_orders.specs.Keys.{columns_of}
use Rattle.key_orders.specs.Scans.{Bounds}
use Rattle.bt_levels.specs.declared.sound.SoundTree.{SoundTree}
use Rattle.bt_levels.specs.Sound.{image_of}
use Rattle.bt_steps.specs.Pages.{is_killed}
use Rattle.bt_steps.specs.Ways.{Goes}
use Rattle.bt_search.specs.Spots.{left_from, rest_from, scan_on}

-- what a scan goes right of
abbrev pub scan_goes : List KeySpec → Bounds → Goes
scan_goes specs bounds s = goes_right (columns_of specs) bounds.low s

-- the searcher comes to this block
abbrev pub ComesTo : Names → SoundTree → Bounds → ℕ → Type 0
ComesTo names sound bounds b = IsVisited is_killed (image_of names sound) (scan_on sound bounds) b

-- One state leads to another by visits that raise a count: what is left is the same, and each visit is one less.
pub record GoesOn (names : Names) (sound : SoundTree) (bounds : Bounds) (from to : State (Entry Value Tid))
    (before now : ℕ) : Type 0 where
  pub rest : rest_from names sound bounds from ≡ rest_from names sound bounds to
  pub left : before + left_from names sound bounds from ≡ now + left_from names sound bounds to
