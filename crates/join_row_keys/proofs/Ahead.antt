-- The row at which a cursor is.
use Rattle.std.proofs.Common.{◌≡◌, ◌∷◌, ◌++◌, List, ap}
use Rattle.outside.specs.Outside.{Names}
use Rattle.heap_rows.specs.declared.row_cursor.RowCursor.{RowCursor}
use Rattle.heap_rows.specs.declared.rows.LiveRow.{LiveRow}
use Rattle.heap_rows.specs.RowCursor.{rows_ahead, rows_here, rows_unread}

-- the first row of the page in hand is the first of those ahead
pub ahead : (names : Names) (cursor : RowCursor) (row : LiveRow) (rows : List LiveRow) → rows_here names cursor ≡ row ∷ rows → rows_ahead names cursor ≡ row ∷ (rows ++ rows_unread names cursor)
unfolding rows_ahead
ahead names cursor row rows is = ap (λ (xs : List LiveRow). xs ++ rows_unread names cursor) is
