-- The live rows of a heap, one after the other: what is left of them.
use Rattle.std.specs.Prelude.{◌≡◌, List}
use Rattle.outside.specs.Outside.{Names}
use Rattle.case_file.specs.Record.{CaseRecord}
use Rattle.heap_table_check.specs.declared.files.SoundHeap.{SoundHeap}
use Rattle.heap_rows.specs.declared.row_values.AskedColumns.TheVariants.{All}
use Rattle.heap_rows.specs.declared.rows.LiveRow.{LiveRow}
use Rattle.heap_rows.specs.declared.rows.LiveRows.{LiveRows}
use Rattle.heap_rows.specs.RowCursor.{IsCursorOf, asked_at, case_at, heap_at, rows_ahead}

-- the case whose rows they are, and its heap
abbrev pub case_of : LiveRows → CaseRecord
case_of rows = case_at rows.cursor

abbrev pub heap_of : LiveRows → SoundHeap
heap_of rows = heap_at rows.cursor

-- they were made for a case and its heap, in which nothing is found in these files, with all columns
pub record AreRowsOf (names : Names) (rows : LiveRows) : Type 0 where
  pub cursor : IsCursorOf names rows.cursor
  pub all : asked_at rows.cursor ≡ All

-- the rows that are left
abbrev pub rows_left : Names → LiveRows → List LiveRow
rows_left names rows = rows_ahead names rows.cursor

-- rows of the same heap
pub record IsSameHeap (before after : LiveRows) : Type 0 where
  pub case : case_of after ≡ case_of before
  pub heap : heap_of after ≡ heap_of before
