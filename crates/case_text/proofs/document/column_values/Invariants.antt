use Rattle.std.proofs.Common.{◌≡◌, ◌++◌, drop, map}
use Rattle.toml.specs.View.{view}
use Rattle.case_text.specs.Written.{column_data}
use Rattle.case_text.proofs.document.column_values.Given as goal

abbrev pub invariant-loop-column : goal.invariant-loop-column
invariant-loop-column l = map view l.out.items ++ map column_data (drop l.column-index l.columns) ≡ map column_data l.columns
