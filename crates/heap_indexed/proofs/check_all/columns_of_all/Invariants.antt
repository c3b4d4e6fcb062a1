use Rattle.std.proofs.Common.{◌≡◌}
use Rattle.std.specs.Prelude.{take}
use Rattle.heap_indexed.specs.Meetings.{columns_of_all}
use Rattle.heap_indexed.proofs.check_all.columns_of_all.Given as goal

-- the columns of the indexes so far
abbrev pub invariant-loop-j : goal.invariant-loop-j
invariant-loop-j l = l.columns.items ≡ columns_of_all (take l.j l.trees)
