use Rattle.bt_build.specs.Laid.{AreBeingPut, later_tuples}
use Rattle.bt_build.specs.Source.{entries_sorted}
use Rattle.bt_build.proofs.paging.add_later.Given as goal

abbrev pub invariant-loop-i : goal.invariant-loop-i
invariant-loop-i l = AreBeingPut l.fn.page l.page (later_tuples l.fn.sorted.source.specs.now (entries_sorted l.fn.sorted) l.bounds l.first) l.i
