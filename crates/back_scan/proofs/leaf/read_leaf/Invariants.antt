use Rattle.std.proofs.Common.{◌≡◌, ◌≢◌, ◌≤◌}
use Rattle.outside.specs.Outside.{Names}
use Rattle.page_layout.specs.Page.{count_of}
use Rattle.page_layout.specs.View.{page_bytes}
use Rattle.bt_levels.specs.Sound.{HoldsTree}
use Rattle.back_scan.specs.Leaves.{Passes}
use Rattle.back_scan.specs.Spots.{StandsAt}
use Rattle.back_scan.proofs.leaf.read_leaf.Given as goal

-- the reader went on to the spot, and what is left is the same
abbrev pub invariant-loop-spot : goal.invariant-loop-spot
invariant-loop-spot l = record {
  last : l.spot.item ≤ count_of (page_bytes l.page);
  block : l.spot.block ≡ l.initial.spot.block;
  goes : (names : Names) → HoldsTree names l.search.tree.now → l.initial.spot.block ≢ 0 → StandsAt names l.search.tree.now l.search.scan.now l.initial.spot (page_bytes l.page) → Passes names l.search.tree.now l.search.scan.now l.initial.spot l.spot (page_bytes l.page);
}

abbrev pub decreases-loop-spot : goal.decreases-loop-spot
decreases-loop-spot l = l.spot.item
