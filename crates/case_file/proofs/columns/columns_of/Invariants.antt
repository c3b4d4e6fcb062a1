use Rattle.std.proofs.Common.{◌≡◌, ◌++◌, drop, map}
use Rattle.toml.specs.View.{view}
use Rattle.case_file.specs.Columns.{column_of}
use Rattle.case_file.proofs.columns.columns_of.Given as goal

abbrev pub invariant-loop-column : goal.invariant-loop-column
invariant-loop-column l = l.out.items ++ map column_of (map view (drop l.column-index l.columns)) ≡ map column_of (map view l.columns)
