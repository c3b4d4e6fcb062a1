use Rattle.std.proofs.Common.{◌-◌, ◌≤◌, []}
use Rattle.outside.specs.Outside.{IfTold, PassedAtMost}
use Rattle.laws_search.specs.Search.{At}
use Rattle.bt_search.specs.Descents.{ComesTo, GoesOn}
use Rattle.bt_search.proofs.descent.arrive.Given as goal

-- the searcher comes to the block, and what is left there is what was left at the first
abbrev pub invariant-loop-visits : goal.invariant-loop-visits
invariant-loop-visits g l = record {
  onward : l.initial.visits.count ≤ l.visits.count;
  limit : l.visits.count ≤ l.search.limit;
  comes : IfTold g.F.Files.seen l.initial.files (λ names. ComesTo names l.search.tree.now l.search.scan.now l.block);
  goes : IfTold g.F.Files.seen l.initial.files (λ names. GoesOn names l.search.tree.now l.search.scan.now (At l.first []) (At l.block []) l.initial.visits.count l.visits.count);
  asked : PassedAtMost (l.visits.count - l.initial.visits.count) g.F.Files.seen l.initial.files l.files;
}

abbrev pub decreases-loop-visits : goal.decreases-loop-visits
decreases-loop-visits g l = l.search.limit - l.visits.count
