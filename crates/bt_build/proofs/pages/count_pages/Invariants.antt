use Rattle.std.proofs.Common.{◌≡◌, ◌≤◌, ◌+◌, ◌++◌, ◌<◌, drop}
use Rattle.bt_build.specs.Pages.{counts_from, page_counts}
use Rattle.bt_build.proofs.pages.count_pages.Given as goal

abbrev pub invariant-loop-i : goal.invariant-loop-i
invariant-loop-i l =
    (l.used < 65536)
    × (l.count ≤ l.i + 1)
    × (l.counts.items ++ counts_from l.first 5436 (drop l.i l.tail) l.used l.count ≡ page_counts l.first 5436 l.sizes)
