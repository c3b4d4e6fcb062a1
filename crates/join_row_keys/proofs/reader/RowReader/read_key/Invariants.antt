use Rattle.std.proofs.Common.{◌≡◌, ◌∷◌, List, length}
use Rattle.outside.specs.Outside.{Names}
use Rattle.key_attrs.specs.Columns.{tree_columns}
use Rattle.join_rules.specs.Rows.{key_numbers, values_at}
use Rattle.heap_rows.specs.declared.rows.LiveRow.{LiveRow}
use Rattle.heap_rows.specs.RowCursor.{IsCursorOf, rows_ahead}
use Rattle.join_row_keys.proofs.KeyLaws.{FitSoFar, IsSoFar}
use Rattle.join_row_keys.proofs.reader.RowReader.read_key.Given as goal

-- the values of the columns so far begin the key, and fit it
abbrev pub invariant-loop-k : goal.invariant-loop-k
invariant-loop-k l = record {
  each : length l.key ≡ l.k;
  values : (names : Names) (row : LiveRow) (rows : List LiveRow) → IsCursorOf names l.cursor → rows_ahead names l.cursor ≡ row ∷ rows
      → IsSoFar (values_at (key_numbers (tree_columns l.self.columns)) row.cells) (key_numbers (tree_columns l.self.columns)) row.cells l.k l.key;
  fits : FitSoFar l.self.columns.specs.now l.k l.key;
}
