use Rattle.std.proofs.Common.{◌≡◌, ◌∷◌, List, length}
use Rattle.outside.specs.Outside.{Names}
use Rattle.key_attrs.specs.Columns.{tree_columns}
use Rattle.join_rules.specs.Rows.{more_numbers, values_at}
use Rattle.heap_rows.specs.declared.rows.LiveRow.{LiveRow}
use Rattle.heap_rows.specs.RowCursor.{IsCursorOf, rows_ahead}
use Rattle.join_row_keys.proofs.KeyLaws.{IsSoFar}
use Rattle.join_row_keys.proofs.MoreLaws.{FitMore}
use Rattle.join_row_keys.proofs.reader.RowReader.read_more.Given as goal

-- the values of the columns so far begin all, and fit them
abbrev pub invariant-loop-k : goal.invariant-loop-k
invariant-loop-k l = record {
  each : length l.more ≡ l.k;
  values : (names : Names) (row : LiveRow) (rows : List LiveRow) → IsCursorOf names l.cursor → rows_ahead names l.cursor ≡ row ∷ rows
      → IsSoFar (values_at (more_numbers (tree_columns l.self.columns)) row.cells) (more_numbers (tree_columns l.self.columns)) row.cells l.k l.more;
  fits : FitMore l.self.columns.more.now l.k l.more;
}
