use Rattle.std.proofs.Common.{◌≡◌, ◌+◌, ◌++◌, drop, length}
use Rattle.std.specs.Prelude.{All}
use Rattle.bt_build.specs.Groups.{IsItem}
use Rattle.bt_build.specs.Laid.{AreLeftToLay, level_bytes}
use Rattle.bt_build.specs.Levels.{ArePages, leaves_by}
use Rattle.bt_build.specs.Source.{entries_sorted}
use Rattle.bt_build.proofs.paging.lay_leaves.Given as goal

abbrev pub invariant-loop-p : goal.invariant-loop-p
invariant-loop-p l =
    AreLeftToLay l.fn.sorted.source.specs.now l.fn.sorted.source.more.now (entries_sorted l.fn.sorted)
    (leaves_by l.fn.sorted.source.specs.now (entries_sorted l.fn.sorted) (drop l.p l.level.counts.items) l.left)
    (drop l.p l.level.bounds.items) 0 l.prev l.block l.out.items
    (l.fn.out.items ++ level_bytes l.fn.sorted.source.specs.now l.fn.sorted.source.more.now
    (leaves_by l.fn.sorted.source.specs.now (entries_sorted l.fn.sorted) l.level.counts.items l.fn.items) 0 0 1)
    × ArePages (drop l.p l.level.counts.items) (length l.left)
    × All (IsItem l.fn.sorted.source.specs.now l.fn.sorted.source.more.now (entries_sorted l.fn.sorted)) l.left
    × (l.block ≡ l.p + 1)
