-- A cursor that went on, and work that was done.
use Rattle.std.proofs.Common.{◌≡◌, List, get_or}
use Rattle.heap_rows.specs.declared.row_cursor.RowCursor.{RowCursor}
use Rattle.heap_rows.specs.RowCursor.{IsSameCursor}
use Rattle.join_row_keys.specs.declared.keys.KeyedHeap.{KeyedHeap}
use Rattle.join_row_keys.specs.Rows.{IsIndexAt}
use Rattle.join_row_keys.proofs.Places.{same-index}
use Rattle.heap_indexed.specs.declared.work.IndexWork.{IndexWork}
use Rattle.heap_indexed.specs.Works.{AreIndexesAt, indexes_of}
use Rattle.heap_indexed.proofs.Each.{same-each}

-- a cursor of the same heap that is asked for the same columns
pub same-cursor : (works : List IndexWork) (old new : RowCursor) → IsSameCursor old new → AreIndexesAt old works → AreIndexesAt new works
same-cursor works old new same at k d lt = same-index (get_or works k d).index old new same (at k d lt)

-- and work for the same indexes
pub same-indexes : (old-works new-works : List IndexWork) (old new : RowCursor) → indexes_of new-works ≡ indexes_of old-works → IsSameCursor old new → AreIndexesAt old old-works → AreIndexesAt new new-works
same-indexes old-works new-works old new is same at =
    same-cursor new-works old new same (same-each (λ (i : KeyedHeap). IsIndexAt i old) old-works new-works is at)
