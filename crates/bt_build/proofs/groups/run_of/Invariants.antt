use Rattle.std.proofs.Common.{◌≡◌, ◌+◌, drop}
use Rattle.laws_building.specs.Groups.{run_length}
use Rattle.laws_built_index.specs.Sizes.{grouping_of}
use Rattle.bt_build.specs.Source.{entries_of, entry_of}
use Rattle.bt_build.proofs.groups.run_of.Given as goal

abbrev pub invariant-loop-i : goal.invariant-loop-i
invariant-loop-i l =
    l.i + run_length (grouping_of l.source.specs.now l.source.more.now).same_key (entry_of l.source l.place) (entries_of l.source (drop l.i l.later))
    ≡ run_length (grouping_of l.source.specs.now l.source.more.now).same_key (entry_of l.source l.place) (entries_of l.source l.later)
