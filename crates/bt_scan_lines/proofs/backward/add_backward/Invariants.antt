use Rattle.std.proofs.Common.{◌+◌, ◌-◌, ◌*◌, ◌≤◌, min, reverse}
use Rattle.outside.specs.Outside.{IfTold, Passed}
use Rattle.back_scan.specs.Spots.{StandsAt, left_at, rest_at}
use Rattle.bt_scan_lines.specs.Lines.{LeavesLinesOf}
use Rattle.bt_scan_lines.specs.Wanted.{wanted_on}
use Rattle.bt_scan_lines.proofs.backward.add_backward.Given as goal

-- what is left at the spot are the lines that are left
abbrev pub invariant-loop-spot : goal.invariant-loop-spot
invariant-loop-spot g l = record {
  limit : l.visits.count ≤ l.search.limit;
  stands : IfTold g.F.Files.seen l.fn.files (λ names. StandsAt names l.search.tree.now l.search.scan.now l.spot l.page);
  few : IfTold g.F.Files.seen l.fn.files (λ names. l.visits.count + left_at names l.search.tree.now l.search.scan.now l.spot ≤ l.search.limit);
  lines : IfTold g.F.Files.seen l.fn.files (λ names. LeavesLinesOf (reverse (wanted_on names l.search.tree.now l.search.scan.now)) (rest_at names l.search.tree.now l.search.scan.now l.spot) l.fn.lines l.lines);
  asked : Passed g.F.Files.seen l.fn.files l.files;
}

abbrev pub decreases-loop-spot : goal.decreases-loop-spot
decreases-loop-spot g l = 2 * (l.search.limit - l.visits.count) + min 1 l.spot.block
