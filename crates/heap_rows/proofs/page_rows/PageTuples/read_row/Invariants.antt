use Rattle.std.proofs.Common.{◌≡◌, ◌-◌, ◌≤◌, List, length}
use Rattle.varlena_attrs.specs.Forms.{Attribute}
use Rattle.varlena_attrs.specs.InTurn.{AreRead}
use Rattle.heap_rows.specs.PageRows.{HasValues}
use Rattle.heap_rows.specs.RowPages.{HasAttributes}
use Rattle.heap_rows.specs.RowValues.{AreStarts}
use Rattle.heap_rows.proofs.page_rows.PageTuples.read_row.Given as goal

-- the values of the columns so far
abbrev pub invariant-loop-k : goal.invariant-loop-k
invariant-loop-k l = record {
  columns : l.attrs.columns ≡ l.self.types.now;
  read : (list : List Attribute) → HasAttributes l.self.types.now l.self.page.now l.item list → AreRead l.attrs list;
  count : length l.values ≡ l.k - l.first;
  within : l.k - l.first ≤ l.end - l.first;
  values : (list : List Attribute) → HasAttributes l.self.types.now l.self.page.now l.item list
      → AreStarts l.self.types.now l.self.asked.now l.self.starts.now
      → HasValues l.self.types.now l.self.asked.now l.first list l.values;
}
