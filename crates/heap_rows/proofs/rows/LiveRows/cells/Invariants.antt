use Rattle.std.proofs.Common.{◌≡◌, ◌∷◌, List, length, take}
use Rattle.outside.specs.Outside.{Names}
use Rattle.heap_rows.specs.LiveRows.{AreRowsOf, case_of, rows_left}
use Rattle.heap_rows.specs.declared.rows.LiveRow.{LiveRow}
use Rattle.heap_rows.proofs.RowFits.{FitFirst}
use Rattle.heap_rows.proofs.rows.LiveRows.cells.Given as goal

-- the cells of the columns so far are there
abbrev pub invariant-loop-k : goal.invariant-loop-k
invariant-loop-k l = record {
  cells : (names : Names) (row : LiveRow) (rows : List LiveRow) → AreRowsOf names l.self → rows_left names l.self ≡ row ∷ rows → l.cells ≡ take l.k row.cells;
  each : length l.cells ≡ l.k;
  fits : FitFirst (case_of l.self).columns l.cells;
}
