use Rattle.std.proofs.Common.{◌≡◌, [], length}
use Rattle.std.specs.Prelude.{All, take}
use Rattle.outside.specs.Outside.{Names}
use Rattle.reports.specs.Added.{nothing}
use Rattle.heap_rows.specs.declared.row_cursor.RowCursor.{RowCursor}
use Rattle.heap_rows.specs.RowCursor.{AreAsked, asked_at}
use Rattle.heap_indexed.specs.Meetings.{columns_of_all}
use Rattle.heap_indexed.specs.Works.{AreAskedEach, AreInWork, IsOf, trees_of}
use Rattle.heap_indexed.proofs.check_all.new_works.Given as goal

-- nothing is done yet for the indexes so far, and their columns begin where they say
abbrev pub invariant-loop-j : goal.invariant-loop-j
invariant-loop-j l = record {
  trees : trees_of l.works.items ≡ take l.j l.trees;
  each : All (λ work. IsOf l.case l.heap work.index) l.works.items;
  first : l.first ≡ length (columns_of_all (take l.j l.trees));
  asked : (cursor : RowCursor) → AreAsked (columns_of_all l.trees) (asked_at cursor) → AreAskedEach cursor l.works.items;
  work : (names : Names) → AreInWork names (λ tree. nothing) (λ tree. nothing) [] l.works.items;
}
