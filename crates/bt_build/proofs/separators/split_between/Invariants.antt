use Rattle.std.proofs.Common.{◌≡◌, ◌+◌, length}
use Rattle.bt_build.specs.Separators.{split_of}
use Rattle.bt_build.specs.Source.{entry_of}
use Rattle.bt_build.specs.Places.{tid_of}
use Rattle.bt_build.proofs.SplitLaws.{rest_split}
use Rattle.bt_build.proofs.separators.split_between.Given as goal

abbrev pub invariant-loop-i : goal.invariant-loop-i
invariant-loop-i l =
    (length (split_of l.source.specs.now (entry_of l.source l.left) (entry_of l.source l.fn.right)).kept
    ≡ l.i + length (rest_split l.source.specs.now (tid_of l.left) l.i l.a l.b).kept)
    × ((split_of l.source.specs.now (entry_of l.source l.left) (entry_of l.source l.fn.right)).tid
    ≡ (rest_split l.source.specs.now (tid_of l.left) l.i l.a l.b).tid)
