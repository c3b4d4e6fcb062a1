use Rattle.std.proofs.Common.{◌≡◌, ℕ, ◌<◌, ◌≤◌, ◌++◌, List, length}
use Rattle.std.specs.Prelude.{slice_index_or}
use Rattle.outside.specs.Outside.{Names}
use Rattle.bt_levels.specs.declared.sound.SoundTree.{SoundTree}
use Rattle.reports.specs.Lists.{Lists}
use Rattle.heap_rows.specs.declared.rows.LiveRow.{LiveRow}
use Rattle.heap_rows.specs.RowCursor.{IsCursorOf, rows_here}
use Rattle.heap_indexed.specs.declared.work.IndexWork.{IndexWork}
use Rattle.heap_indexed.specs.Works.{AreInWork, IsKeptIn, indexes_of, tree_of}
use Rattle.heap_indexed.proofs.ranges.keep_pages.Given as goal

-- the page's rows are kept for each index before this one for which that can be, and for the others all is as it was
abbrev pub invariant-loop-j : goal.invariant-loop-j
invariant-loop-j l = record {
  many : length l.works ≡ length l.initial.works;
  indexes : indexes_of l.works ≡ indexes_of l.initial.works;
  left : (k : ℕ) (d : IndexWork) → l.j ≤ k → slice_index_or l.works k d ≡ slice_index_or l.initial.works k d;
  done : (names : Names) (done strays : SoundTree → Lists) (range : List LiveRow) → IsCursorOf names l.cursor → AreInWork names done strays range l.initial.works
      → (k : ℕ) (d : IndexWork) → k < l.j → IsKeptIn names (done (tree_of (slice_index_or l.works k d))) (strays (tree_of (slice_index_or l.works k d))) (range ++ rows_here names l.cursor) range (slice_index_or l.works k d);
}
