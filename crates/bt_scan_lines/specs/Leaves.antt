-- The lines of what a scan has left on a leaf, and where it goes on.
use Rattle.std.specs.Prelude.{◌≡◌, ℕ, [], Option, Some, None}
use Rattle.outside.specs.Outside.{Names}
use Rattle.laws_search.specs.Back.{Reads}
use Rattle.laws_search.specs.Search.{At}
use Rattle.key_orders.specs.Scans.{Bounds}
use Rattle.bt_levels.specs.declared.sound.SoundTree.{SoundTree}
use Rattle.bt_search.specs.declared.spot.Spot.{Spot}
use Rattle.bt_search.specs.Descents.{ComesTo}
use Rattle.bt_search.specs.Spots as forward
use Rattle.back_scan.specs.Spots as backward
use Rattle.bt_scan_lines.specs.declared.lines.LineWriter.{LineWriter}
use Rattle.bt_scan_lines.specs.Lines.{LeavesLinesOf}

-- the lines were added but for those of what the right sibling leads to
pub record GoesRight (names : Names) (sound : SoundTree) (bounds : Bounds) (spot : Spot) (next : ℕ)
    (old new : LineWriter) : Type 0 where
  pub comes : ComesTo names sound bounds next
  pub left : forward.left_at names sound bounds spot ≡ forward.left_from names sound bounds (At next [])
  pub lines : LeavesLinesOf (forward.rest_at names sound bounds spot)
      (forward.rest_from names sound bounds (At next [])) old new

-- all lines were added, or the scan goes on to a block
abbrev pub AddsLeaf : Names → SoundTree → Bounds → Spot → Option ℕ → (old new : LineWriter) → Type 0
AddsLeaf names sound bounds spot None old new = LeavesLinesOf (forward.rest_at names sound bounds spot) [] old new
AddsLeaf names sound bounds spot (Some next) old new = GoesRight names sound bounds spot next old new

-- the same from the last entry down, to the left

pub record GoesLeft (names : Names) (sound : SoundTree) (bounds : Bounds) (spot : Spot) (prev : ℕ)
    (old new : LineWriter) : Type 0 where
  pub comes : backward.LeftTo names sound bounds prev
  pub left : backward.left_at names sound bounds spot ≡ backward.left_from names sound bounds (Reads prev [])
  pub lines : LeavesLinesOf (backward.rest_at names sound bounds spot)
      (backward.rest_from names sound bounds (Reads prev [])) old new

abbrev pub AddsLeafBack : Names → SoundTree → Bounds → Spot → Option ℕ → (old new : LineWriter) → Type 0
AddsLeafBack names sound bounds spot None old new = LeavesLinesOf (backward.rest_at names sound bounds spot) [] old new
AddsLeafBack names sound bounds spot (Some prev) old new = GoesLeft names sound bounds spot prev old new
