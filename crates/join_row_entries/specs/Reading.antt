-- The row at which a cursor is, as it is read for an index.
use Rattle.std.specs.Prelude.{◌≡◌, ℕ, ◌≤◌, true, List, length}
use Rattle.key_orders.specs.declared.columns.Value.{Value}
use Rattle.key_orders.specs.Keys.{IsKey}
use Rattle.key_attrs.specs.Columns.{tree_columns}
use Rattle.key_attrs.specs.Keyed.{fits_more}
use Rattle.case_file.specs.Record.{CaseRecord}
use Rattle.bt_levels.specs.Index.{case_columns, index_of}
use Rattle.heap_rows.specs.declared.row_cursor.RowCursor.{RowCursor}
use Rattle.heap_rows.specs.RowCursor.{asked_at, case_at}
use Rattle.join_row_keys.specs.Rows.{AreAskedFrom, columns_in}
use Rattle.join_row_entries.specs.declared.index.IndexReader.{IndexReader}

-- rows are read for an index of the case, and these are its columns
pub record IsReader (reader : IndexReader) : Type 0 where
  pub first : 1 ≤ reader.index
  pub last : reader.index ≤ length reader.case.now.indexes
  pub columns : tree_columns reader.rows.columns ≡ case_columns reader.case.now reader.index
  pub begin : reader.rows.first ≡ 0

-- the cursor goes over rows of the case, and is asked for the columns of the index
pub record IsAskedFor (reader : IndexReader) (cursor : RowCursor) : Type 0 where
  pub case : case_at cursor ≡ reader.case.now
  pub asked : AreAskedFrom 0 (columns_in (tree_columns reader.rows.columns)) (asked_at cursor)

-- values that an entry of index n may have: one for each column, which fits it
pub record AreRowValues (case : CaseRecord) (n : ℕ) (key more : List Value) : Type 0 where
  pub key_fits : IsKey (index_of case n).keys key
  pub more_fits : fits_more (index_of case n).more more ≡ true
  pub more_whole : length more ≡ length (index_of case n).more
