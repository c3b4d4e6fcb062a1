use Rattle.std.proofs.Common.{◌≡◌, ◌+◌, ◌-◌, ◌*◌, ◌≤◌, min}
use Rattle.outside.specs.Outside.{IfTold, PassedAtMost}
use Rattle.back_scan.specs.Spots.{StandsAt, left_at, rest_at}
use Rattle.back_scan.proofs.prev.prev_entry.Given as goal

-- what is left at the spot is what was left at first
abbrev pub invariant-loop-spot : goal.invariant-loop-spot
invariant-loop-spot g l = record {
  onward : l.initial.visits.count ≤ l.visits.count;
  limit : l.visits.count ≤ l.search.limit;
  stands : IfTold g.F.Files.seen l.initial.files (λ names. StandsAt names l.search.tree.now l.search.scan.now l.spot l.page);
  rest : IfTold g.F.Files.seen l.initial.files (λ names. rest_at names l.search.tree.now l.search.scan.now l.initial.spot ≡ rest_at names l.search.tree.now l.search.scan.now l.spot);
  left : IfTold g.F.Files.seen l.initial.files (λ names. l.initial.visits.count + left_at names l.search.tree.now l.search.scan.now l.initial.spot ≡ l.visits.count + left_at names l.search.tree.now l.search.scan.now l.spot);
  nowhere : l.initial.spot.block ≡ 0 → (l.spot ≡ l.initial.spot) × (l.page ≡ l.initial.page) × (l.visits ≡ l.initial.visits);
  asked : PassedAtMost (l.visits.count - l.initial.visits.count) g.F.Files.seen l.initial.files l.files;
}

abbrev pub decreases-loop-spot : goal.decreases-loop-spot
decreases-loop-spot g l = 2 * (l.search.limit - l.visits.count) + min 1 l.spot.block
