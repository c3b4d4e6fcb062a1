use Rattle.std.proofs.Common.{◌≡◌, ◌∷◌, List, length}
use Rattle.outside.specs.Outside.{Names}
use Rattle.key_orders.specs.declared.columns.Value.{Value}
use Rattle.bt_levels.specs.Sound.{index_columns}
use Rattle.heap_rows.specs.declared.rows.LiveRow.{LiveRow}
use Rattle.heap_rows.specs.RowCursor.{IsCursorOf, rows_here}
use Rattle.join_rules.specs.Rows.{values_at}
use Rattle.join_slots.specs.Slots.{IsBegunRow, keys_in, met_in}
use Rattle.join_row_keys.specs.Rows.{columns_in}
use Rattle.join_row_keys.proofs.KeyLaws.{IsSoFar}
use Rattle.heap_indexed.proofs.meeting.keep_row_at.Given as goal

-- the values so far are written, and begin those of the row; no row was kept
abbrev pub invariant-loop-k : goal.invariant-loop-k
invariant-loop-k l = record {
  values : List Value;
  written : IsBegunRow l.slots l.row l.fn.root l.number values;
  many : length values ≡ l.k;
  so_far : (names : Names) (row : LiveRow) (rows : List LiveRow) → IsCursorOf names l.cursor → rows_here names l.cursor ≡ row ∷ rows
      → IsSoFar (values_at (columns_in (index_columns l.index.at.tree.now)) row.cells) (columns_in (index_columns l.index.at.tree.now)) row.cells l.k values;
  keys : keys_in l.slots ≡ keys_in l.initial.slots;
  met : met_in l.slots ≡ met_in l.initial.slots;
}
