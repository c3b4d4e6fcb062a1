use Rattle.std.proofs.Common.{◌≡◌, ◌≤◌, take}
use Rattle.std.specs.Prelude.{All}
use Rattle.bt_build.specs.Levels.{split_sizes}
use Rattle.bt_build.specs.Source.{entries_sorted}
use Rattle.bt_build.proofs.levels.split_sizes.Given as goal

abbrev pub invariant-loop-i : goal.invariant-loop-i
invariant-loop-i l =
    (l.sizes.items ≡ split_sizes l.fn.sorted.source.specs.now (entries_sorted l.fn.sorted) (take l.i l.bounds))
    × All (λ size. size ≤ 2716) l.sizes.items
