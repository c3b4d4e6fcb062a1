use Rattle.std.proofs.Common.{◌≡◌, ◌+◌, ◌++◌, drop, length}
use Rattle.std.specs.Prelude.{suc}
use Rattle.bt_build.specs.Laid.{AreLeftToLay, level_bytes}
use Rattle.bt_build.specs.Levels.{ArePages, inner_by}
use Rattle.bt_build.specs.Source.{entries_sorted}
use Rattle.bt_build.proofs.paging.lay_above.Given as goal

abbrev pub invariant-loop-p : goal.invariant-loop-p
invariant-loop-p l =
    AreLeftToLay l.fn.sorted.source.specs.now l.fn.sorted.source.more.now (entries_sorted l.fn.sorted)
    (inner_by l.fn.sorted.source.specs.now (entries_sorted l.fn.sorted) (drop l.p l.level.counts.items) l.left l.down)
    (drop l.p l.level.bounds.items) (suc l.below.number) l.prev l.block l.out.items
    (l.fn.out.items ++ level_bytes l.fn.sorted.source.specs.now l.fn.sorted.source.more.now
    (inner_by l.fn.sorted.source.specs.now (entries_sorted l.fn.sorted) l.level.counts.items l.below.bounds.items l.below.first)
    (suc l.below.number) 0 l.level.first)
    × ArePages (drop l.p l.level.counts.items) (length l.left)
    × (l.block ≡ l.level.first + l.p)
    × (l.down + length l.left ≡ l.below.first + length l.below.bounds.items)
