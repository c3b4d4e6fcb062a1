use Rattle.std.proofs.Common.{◌≡◌, ◌++◌, drop, map}
use Rattle.toml.specs.View.{view}
use Rattle.case_text.specs.Written.{index_data}
use Rattle.case_text.proofs.document.index_values.Given as goal

abbrev pub invariant-loop-index : goal.invariant-loop-index
invariant-loop-index l = map view l.out.items ++ map (index_data l.columns) (drop l.index-index l.indexes) ≡ map (index_data l.columns) l.indexes
