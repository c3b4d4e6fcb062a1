use Rattle.std.proofs.Common.{◌≡◌, ◌++◌, drop}
use Rattle.heap_rows.specs.RowFits.{FitColumns}
use Rattle.copy_out.specs.Lines.{fields_of, joined}
use Rattle.copy_out.proofs.Joining.{rest_of}
use Rattle.copy_out.proofs.lines.push_fields.Given as goal

-- what is written and the fields that are left are the line
abbrev pub invariant-loop-i : goal.invariant-loop-i
invariant-loop-i l = record {
  fit : FitColumns (drop l.i l.columns) (drop l.i l.cells);
  told : l.text ++ rest_of l.i (fields_of (drop l.i l.columns) (drop l.i l.cells)) ≡ l.fn.text ++ joined (fields_of l.columns l.cells);
}
