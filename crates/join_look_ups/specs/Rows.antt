-- The rows of a heap, block by block, and what rows give.
use Rattle.std.specs.Prelude.{◌≡◌, ℕ, ◌+◌, List, Result, Ok, Err, Some}
use Rattle.outside.specs.Adds.{Begins, Leaves, each_below, one_list}
use Rattle.outside.specs.Outside.{Names}
use Rattle.key_orders.specs.declared.columns.Value.{Value}
use Rattle.key_attrs.specs.Columns.{TreeColumns}
use Rattle.case_file.specs.Record.{CaseRecord}
use Rattle.bt_levels.specs.declared.sound.SoundTree.{SoundTree}
use Rattle.bt_levels.specs.Files.{number_of}
use Rattle.bt_levels.specs.Sound.{file_of, index_columns}
use Rattle.reports.specs.Added.{report_lists}
use Rattle.reports.specs.Lists.{Lists}
use Rattle.heap_rows.specs.declared.rows.LiveRow.{LiveRow}
use Rattle.heap_rows.specs.Rows.{block_rows}
use Rattle.join_rules.specs.Lists.{of_each, row_lists}
use Rattle.join_rules.specs.Rows.{key_numbers, more_numbers, values_at}
use Rattle.join_look_ups.specs.Looking.{has_entry}

-- the rows of so many blocks from one on
unfoldable pub rows_from : CaseRecord → Names → (first count : ℕ) → List LiveRow
rows_from case names first count = each_below one_list (λ k. block_rows case names (first + k)) count

-- What rows give

-- a row has these values in an index with these columns
pub record HasValues (columns : TreeColumns) (row : LiveRow) (key more : List Value) : Type 0 where
  pub of_key : values_at (key_numbers columns) row.cells ≡ Some key
  pub included : values_at (more_numbers columns) row.cells ≡ Some more

-- X1 or U6, where one is to be said of a row
abbrev pub lists_of_row : Names → SoundTree → LiveRow → Lists
lists_of_row names tree = row_lists (number_of (file_of tree)) (index_columns tree) (has_entry names tree)

unfoldable pub owed_for : Names → SoundTree → List LiveRow → Lists
owed_for names tree rows = of_each report_lists (lists_of_row names tree) rows

-- what was owed before a step is what it added, and then what is owed after it; after an error a first part of that is
-- added
abbrev pub Settles : {T E : Type 0} → Result T E → (old new owed left : Lists) → Type 0
Settles (Ok _) old new owed left = Leaves report_lists old new owed left
Settles (Err _) old new owed left = Begins report_lists old new owed
