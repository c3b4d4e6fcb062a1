-- The live rows of a table as text.
use Rattle.std.specs.Prelude.{◌≡◌, ℕ, zero, suc, ◌+◌, List, [], ◌∷◌, ◌++◌, length, map}
use Rattle.outside.specs.Outside.{Names}
use Rattle.case_file.specs.Record.{CaseRecord}
use Rattle.case_file.specs.declared.case.Column.{Column}
use Rattle.heap_rows.specs.RowCursor.{AreAsked, asked_at, case_at}
use Rattle.heap_rows.specs.Rows.{rows_of}
use Rattle.heap_rows.specs.declared.row_cells.Cell.{Cell}
use Rattle.heap_rows.specs.declared.row_cursor.RowCursor.{RowCursor}
use Rattle.heap_rows.specs.declared.rows.LiveRow.{LiveRow}
use Rattle.copy_out.specs.Lines.{line_of, text_of, unread_in, unread_of}
use Rattle.copy_out.specs.declared.live.CopyWriter.{CopyWriter}

-- the cells of each row
abbrev pub cells_in : List LiveRow → List (List Cell)
cells_in rows = map (λ row. row.cells) rows

-- the text of the live rows of a case's heap, by rising TID, and how many of their values aren't read
unfoldable pub copied_text : CaseRecord → Names → List ℕ
copied_text case names = text_of case.columns (cells_in (rows_of case names))

unfoldable pub unread_values : CaseRecord → Names → ℕ
unread_values case names = unread_of (cells_in (rows_of case names))

-- On the way there

-- so many numbers from one on
abbrev pub numbers_from : (first count : ℕ) → List ℕ
numbers_from first zero = []
numbers_from first (suc n) = first ∷ numbers_from (suc first) n

-- the cursor goes over rows of these columns, and is asked for all of them, in their order
pub record IsOver (columns : List Column) (cursor : RowCursor) : Type 0 where
  pub table : (case_at cursor).columns ≡ columns
  pub asked : AreAsked (numbers_from 0 (length columns)) (asked_at cursor)

-- the line of a row was added, and its unread values are counted
pub record IsAdded (columns : List Column) (cells : List Cell) (old new : CopyWriter) : Type 0 where
  pub text : new.text ≡ old.text ++ line_of columns cells
  pub unread : new.unread ≡ old.unread + unread_in cells

-- what is written and the text of the rows that are left are that of all these rows, and so it is with what is counted
pub record AreLeft (columns : List Column) (all left : List LiveRow) (copy : CopyWriter) : Type 0 where
  pub text : copy.text ++ text_of columns (cells_in left) ≡ text_of columns (cells_in all)
  pub unread : copy.unread + unread_of (cells_in left) ≡ unread_of (cells_in all)
