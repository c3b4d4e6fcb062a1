use Rattle.std.proofs.Common.{◌<◌, ◌+◌, ◌*◌, ◌^◌, ◌++◌, ◌∷◌, ℕ, List, length}
use Rattle.bt_build.specs.declared.levels.Level.{Level}
use Rattle.bt_build.specs.Levels.{AreAbove, AreLevels}
use Rattle.bt_build.specs.Source.{entries_sorted}
use Rattle.bt_build.proofs.levels.levels_over.Given as goal

abbrev pub invariant-loop-alloc : goal.invariant-loop-alloc
invariant-loop-alloc l =
    ((ups : List Level) (end : ℕ) → AreAbove l.fn.sorted.source.specs.now (entries_sorted l.fn.sorted) l.top ups end
    → AreLevels l.fn.sorted.source.specs.now (entries_sorted l.fn.sorted) l.fn.items (l.levels.items ++ l.top ∷ ups) end)
    × (l.top.number + length l.top.bounds.items < 2 ^ 60)
    × (l.top.first + 3 * length l.top.bounds.items < 3 * 2 ^ 60 + 2)

abbrev pub decreases-loop-alloc : goal.decreases-loop-alloc
decreases-loop-alloc l = length l.top.bounds.items
