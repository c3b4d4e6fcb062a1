use Rattle.std.proofs.Common.{◌≡◌, length, take}
use Rattle.cluster_map.specs.Map.{first_entries}
use Rattle.cluster_map.proofs.entry.FileMap.of_first.Given as goal

abbrev pub invariant-loop-k : goal.invariant-loop-k
invariant-loop-k l = record {
  places : length l.entries ≡ 64;
  first : take l.k l.entries ≡ first_entries l.bytes l.k;
}
