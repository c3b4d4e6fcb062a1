use Rattle.std.proofs.Common.{◌≡◌, ◌≢◌, ◌-◌, ◌≤◌}
use Rattle.outside.specs.Outside.{IfTold, PassedAtMost}
use Rattle.bt_levels.specs.Sound.{block_count, fastroot_of}
use Rattle.bt_search.specs.Cached.{IsCacheOf, KeepsAll}
use Rattle.bt_search.proofs.Onward.{IsUnderWay}
use Rattle.bt_search.proofs.look_up.find.Given as goal

-- the way goes on from the block, unless the index is empty, and as many visits are left as weren't made
abbrev pub invariant-loop-visits : goal.invariant-loop-visits
invariant-loop-visits g l = record {
  onward : l.initial.visits.count ≤ l.visits.count;
  limit : l.visits.count ≤ l.limit;
  way : IfTold g.F.Files.seen l.initial.files (λ names. fastroot_of l.tree ≢ 0 → IsUnderWay names l.tree l.sought.key.now l.sought.tid (l.visits.count - l.initial.visits.count) l.block);
  empty : fastroot_of l.tree ≡ 0 → (l.block ≡ 0) × (l.visits.count ≡ l.initial.visits.count);
  of : IfTold g.F.Files.seen l.initial.files (λ names. IsCacheOf names l.tree l.cache);
  capacity : l.cache.capacity ≡ l.initial.cache.capacity;
  kept : KeepsAll (block_count l.tree) l.initial.cache → (l.files ≡ l.initial.files) × KeepsAll (block_count l.tree) l.cache;
  asked : PassedAtMost (l.visits.count - l.initial.visits.count) g.F.Files.seen l.initial.files l.files;
}

abbrev pub decreases-loop-visits : goal.decreases-loop-visits
decreases-loop-visits g l = l.limit - l.visits.count
