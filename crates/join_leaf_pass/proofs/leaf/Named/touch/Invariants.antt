use Rattle.std.proofs.Common.{◌≡◌}
use Rattle.join_leaf_pass.proofs.leaf.Named.touch.Given as goal

-- what is told ahead changes nothing else
abbrev pub invariant-loop-k : goal.invariant-loop-k
invariant-loop-k l = record {
  rise : l.seen.rise ≡ l.initial.seen.rise;
  apart : l.seen.apart ≡ l.initial.seen.apart;
}
