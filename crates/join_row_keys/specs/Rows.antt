-- The row at which a cursor is, and the columns of an index among those that the cursor is asked for.
use Rattle.std.specs.Prelude.{◌≡◌, ℕ, ◌∷◌, ◌++◌, List, drop, length, take}
use Rattle.outside.specs.Outside.{Names}
use Rattle.std.specs.List.{AllByRecursion}
use Rattle.case_file.specs.Sound.{IsSoundKey, IsSoundMore}
use Rattle.case_file.specs.declared.case.Column.{Column}
use Rattle.key_attrs.specs.Columns.{TreeColumns, tree_columns}
use Rattle.bt_levels.specs.Sound.{index_columns}
use Rattle.heap_rows.specs.declared.row_cursor.RowCursor.{RowCursor}
use Rattle.heap_rows.specs.declared.row_cursor.RowPlace.{RowPlace}
use Rattle.heap_rows.specs.declared.rows.LiveRow.{LiveRow}
use Rattle.heap_rows.specs.declared.row_values.AskedColumns.{AskedColumns}
use Rattle.heap_rows.specs.declared.row_values.AskedColumns.TheVariants as asked
use Rattle.heap_rows.specs.RowCursor.{IsCursorOf, asked_at, case_at, heap_at, rows_here}
use Rattle.join_rules.specs.Rows.{key_numbers, more_numbers}
use Rattle.join_row_keys.specs.declared.keys.KeyedHeap.{KeyedHeap}
use Rattle.join_row_keys.specs.declared.reader.RowReader.{RowReader}
use Rattle.join_row_keys.specs.Joined.{BelongTogether}

-- the columns of an index: those of its key, and behind them those that it includes
abbrev pub columns_in : TreeColumns → List ℕ
columns_in columns = key_numbers columns ++ more_numbers columns

-- these are among the columns that are asked for, from the one at a number on
abbrev pub AreAskedFrom : ℕ → List ℕ → AskedColumns → Type 0
AreAskedFrom first columns asked.All = ⊥
AreAskedFrom first columns (asked.Only numbers) = take (length columns) (drop first numbers.items) ≡ columns

-- columns of an index that are those of a table
pub record AreColumnsOf (table : List Column) (columns : TreeColumns) : Type 0 where
  pub keys : AllByRecursion (IsSoundKey table) columns.specs
  pub more : AllByRecursion (IsSoundMore table) columns.more

-- the columns are those of the cursor's table, and it is asked for them
pub record IsReaderOf (reader : RowReader) (cursor : RowCursor) : Type 0 where
  pub columns : AreColumnsOf (case_at cursor).columns (tree_columns reader.columns)
  pub asked : AreAskedFrom reader.first (columns_in (tree_columns reader.columns)) (asked_at cursor)

-- the cursor is one of the heap, and asked for the columns of the index
pub record IsIndexAt (index : KeyedHeap) (cursor : RowCursor) : Type 0 where
  pub belong : BelongTogether index.at.case.now index.at.heap.now index.at.tree.now
  pub case : case_at cursor ≡ index.at.case.now
  pub heap : heap_at cursor ≡ index.at.heap.now
  pub asked : AreAskedFrom index.first (columns_in (index_columns index.at.tree.now)) (asked_at cursor)

-- the row at which a cursor is, and its place
pub record IsFound (names : Names) (cursor : RowCursor) (place : RowPlace) (row : LiveRow) : Type 0 where
  pub cursor_of : IsCursorOf names cursor
  pub rows : List LiveRow
  pub here : rows_here names cursor ≡ row ∷ rows
  pub tid : place.tid ≡ row.tid
  pub root : place.root ≡ row.root
