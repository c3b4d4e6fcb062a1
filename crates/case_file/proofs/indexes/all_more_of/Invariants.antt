use Rattle.std.proofs.Common.{◌≡◌, ◌++◌, drop, map}
use Rattle.toml.specs.View.{view}
use Rattle.case_file.specs.Indexes.{more_of}
use Rattle.case_file.proofs.indexes.all_more_of.Given as goal

abbrev pub invariant-loop-name : goal.invariant-loop-name
invariant-loop-name l = l.out.items ++ map (more_of (map view l.columns)) (map view (drop l.name-index l.names)) ≡ map (more_of (map view l.columns)) (map view l.names)
