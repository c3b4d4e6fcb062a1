use Rattle.std.proofs.Common.{◌≡◌, length}
use Rattle.heap_rows.specs.RowValues.{AreStarts}
use Rattle.heap_rows.proofs.row_values.starts_of.Given as goal

-- the starts of the columns so far
abbrev pub invariant-loop-k : goal.invariant-loop-k
invariant-loop-k l = record {
  starts : AreStarts l.types l.asked l.starts.items;
  count : length l.starts.items ≡ l.k;
}
