-- The numbers before the place are counted down, and the others stand as they stood.
use Rattle.std.proofs.Common.{◌≡◌, ◌++◌, take, drop}
use Rattle.memory_files.specs.Calls.{after_call}
use Rattle.memory_files.proofs.planned.PlannedFailures.next_fails.Given as goal

abbrev pub invariant-loop-n : goal.invariant-loop-n
invariant-loop-n l = l.n-items ≡ after_call (take l.n-index l.initial.n-items) ++ drop l.n-index l.initial.n-items
