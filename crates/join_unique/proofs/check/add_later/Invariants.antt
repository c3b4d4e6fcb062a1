use Rattle.std.proofs.Common.{drop}
use Rattle.outside.specs.Adds.{Leaves}
use Rattle.reports.specs.Added.{report_lists}
use Rattle.join_unique.specs.Later.{later_lists}
use Rattle.join_unique.proofs.check.add_later.Given as goal

-- what was added and what is owed then is what was owed
abbrev pub invariant-loop-k : goal.invariant-loop-k
invariant-loop-k l = Leaves report_lists l.fn.report l.report (later_lists l.index l.numbers) (later_lists l.index (drop l.k l.numbers))
