use Rattle.std.proofs.Common.{◌≡◌, ◌≢◌, ◌-◌, ◌^◌}
use Rattle.outside.specs.Outside.{Names}
use Rattle.bt_levels.specs.Sound.{HoldsTree}
use Rattle.back_scan.specs.Spots.{StandsAt}
use Rattle.bt_scan_lines.proofs.OnLeaf.{WentDown}
use Rattle.bt_scan_lines.proofs.backward.add_leaf.Given as goal

abbrev pub invariant-loop-lines : goal.invariant-loop-lines
invariant-loop-lines l = record {
  block : l.spot.block ≡ l.initial.spot.block;
  went : (names : Names) → HoldsTree names l.search.tree.now → l.initial.spot.block ≢ 0 → StandsAt names l.search.tree.now l.search.scan.now l.initial.spot l.page → WentDown names l.search.tree.now l.search.scan.now l.initial.spot l.spot l.page l.initial.lines l.lines;
}

abbrev pub decreases-loop-lines : goal.decreases-loop-lines
decreases-loop-lines l = 2 ^ 64 - l.lines.count
