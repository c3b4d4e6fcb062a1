use Rattle.std.proofs.Common.{◌≡◌, ◌-◌, ◌<◌, ◌≤◌, ℕ, length, false}
use Rattle.std.specs.Prelude.{None, Some, slice_get}
use Rattle.std.specs.declared.cmp.Ordering.TheVariants.{Less}
use Rattle.key_orders.specs.declared.Tid.{Tid}
use Rattle.key_orders.specs.Keys.{tid_order}
use Rattle.bt_tuples.specs.Rules.{are_not_rising}
use Rattle.bt_steps.proofs.leaf.nth_of.Given as goal

-- in a list that rises, the TIDs before the lower number are below the one that is sought, and those from the higher
-- number on above it
abbrev pub invariant-loop-low : goal.invariant-loop-low
invariant-loop-low l = record {
  to : l.high ≤ length l.tids;
  below : are_not_rising None l.tids ≡ false → (k : ℕ) (t : Tid) → k < l.low → slice_get l.tids k ≡ Some t → tid_order t l.tid ≡ Less;
  above : are_not_rising None l.tids ≡ false → (k : ℕ) (t : Tid) → l.high ≤ k → slice_get l.tids k ≡ Some t → tid_order l.tid t ≡ Less;
}

abbrev pub decreases-loop-low : goal.decreases-loop-low
decreases-loop-low l = l.high - l.low
