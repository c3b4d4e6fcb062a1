use Rattle.std.proofs.Common.{◌++◌, drop}
use Rattle.bt_build.specs.Laid.{AreLevelsLeft, levels_bytes}
use Rattle.bt_build.specs.Levels.{sheets_of}
use Rattle.bt_build.specs.Source.{entries_sorted}
use Rattle.bt_build.proofs.build.lay_levels.Given as goal

abbrev pub invariant-loop-i : goal.invariant-loop-i
invariant-loop-i l =
    AreLevelsLeft l.fn.sorted.source.specs.now l.fn.sorted.source.more.now (entries_sorted l.fn.sorted) l.below
    (drop l.i l.above) l.fn.all.end l.out.items
    (l.fn.out.items ++ levels_bytes l.fn.sorted.source.specs.now l.fn.sorted.source.more.now
    (sheets_of l.fn.sorted.source.specs.now (entries_sorted l.fn.sorted) l.fn.items l.fn.all.levels.items) 0 1)
