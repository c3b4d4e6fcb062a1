use Rattle.std.proofs.Common.{◌≡◌, ◌++◌, drop, map}
use Rattle.toml.specs.View.{view}
use Rattle.case_file.specs.Indexes.{index_of}
use Rattle.case_file.proofs.indexes.indexes_of.Given as goal

abbrev pub invariant-loop-index : goal.invariant-loop-index
invariant-loop-index l = l.out.items ++ map (index_of (map view l.columns)) (map view (drop l.index-index l.indexes)) ≡ map (index_of (map view l.columns)) (map view l.indexes)
