-- Along one leaf: what was added so far, and what is left at the spot.
use Rattle.std.proofs.Common.{◌≡◌, List, ℕ, sym}
use Rattle.outside.specs.Outside.{Names}
use Rattle.laws_search.specs.Keys.{Entry}
use Rattle.key_orders.specs.declared.columns.Value.{Value}
use Rattle.key_orders.specs.declared.Tid.{Tid}
use Rattle.key_orders.specs.Scans.{Bounds}
use Rattle.bt_levels.specs.declared.sound.SoundTree.{SoundTree}
use Rattle.bt_search.specs.declared.spot.Spot.{Spot}
use Rattle.bt_search.specs.Spots as forward
use Rattle.back_scan.specs.Spots as backward
use Rattle.back_scan.specs.Texts.{entry_text}
use Rattle.bt_scan_lines.specs.declared.lines.LineWriter.{LineWriter}
use Rattle.bt_scan_lines.specs.Lines.{LeavesLinesOf, line_of}

-- the line of an entry, by its key and its TID
pub line-is : (key : List Value) (tid : Tid) (e : Entry Value Tid) → e.values ≡ key → tid ≡ e.tid → entry_text key tid ≡ line_of e
line-is key tid e values same = let own = sym values in λ i. entry_text (own i) (same i)

-- the reader went from one spot of the leaf to another
pub record Went (names : Names) (sound : SoundTree) (bounds : Bounds) (from spot : Spot) (page : List ℕ) (old now : LineWriter) : Type 0 where
  pub stands : forward.StandsAt names sound bounds spot page
  pub lines : LeavesLinesOf (forward.rest_at names sound bounds from) (forward.rest_at names sound bounds spot) old now
  pub left : forward.left_at names sound bounds from ≡ forward.left_at names sound bounds spot

-- and the same down
pub record WentDown (names : Names) (sound : SoundTree) (bounds : Bounds) (from spot : Spot) (page : List ℕ) (old now : LineWriter) : Type 0 where
  pub stands : backward.StandsAt names sound bounds spot page
  pub lines : LeavesLinesOf (backward.rest_at names sound bounds from) (backward.rest_at names sound bounds spot) old now
  pub left : backward.left_at names sound bounds from ≡ backward.left_at names sound bounds spot
