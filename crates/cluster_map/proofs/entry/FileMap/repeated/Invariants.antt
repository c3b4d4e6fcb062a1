use Rattle.std.proofs.Common.{◌≡◌, [], take, drop}
use Rattle.cluster_map.specs.Map.{repeated_after}
use Rattle.cluster_map.proofs.entry.FileMap.repeated.Given as goal

abbrev pub invariant-loop-k : goal.invariant-loop-k
invariant-loop-k l = repeated_after (take l.k l.entries) (drop l.k l.entries) ≡ repeated_after [] l.entries
