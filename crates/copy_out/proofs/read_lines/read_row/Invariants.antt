use Rattle.std.proofs.Common.{◌≡◌, List, take, drop}
use Rattle.std.specs.List.{AllByRecursion}
use Rattle.heap_rows.specs.RowFits.{FitColumns}
use Rattle.heap_rows.specs.declared.row_cells.Cell.{Cell}
use Rattle.copy_out.specs.Fields.{HasBytes}
use Rattle.copy_out.specs.Lines.{IsRow, row_text}
use Rattle.copy_out.proofs.read_lines.read_row.Given as goal

-- the cells so far fit, and are those of any row that has this text; what is left is its other fields
abbrev pub invariant-loop-i : goal.invariant-loop-i
invariant-loop-i l = record {
  fit : FitColumns (take l.i l.columns) l.cells;
  bytes : AllByRecursion HasBytes l.cells;
  told : (wanted : List Cell) → IsRow l.columns wanted → l.row ≡ row_text l.columns wanted
      → (l.cells ≡ take l.i wanted) × (l.rest ≡ row_text (drop l.i l.columns) (drop l.i wanted));
}
