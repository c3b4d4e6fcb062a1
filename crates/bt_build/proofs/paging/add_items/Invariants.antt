use Rattle.bt_build.specs.Laid.{AreBeingPut, leaf_tuples}
use Rattle.bt_build.specs.Source.{entries_sorted}
use Rattle.bt_build.proofs.paging.add_items.Given as goal

abbrev pub invariant-loop-i : goal.invariant-loop-i
invariant-loop-i l = AreBeingPut l.fn.page l.page (leaf_tuples l.fn.sorted.source.specs.now l.fn.sorted.source.more.now (entries_sorted l.fn.sorted) l.items) l.i
