use Rattle.std.proofs.Common.{◌≡◌, ◌++◌, drop, map}
use Rattle.toml.specs.View.{view}
use Rattle.case_file.specs.Indexes.{key_of}
use Rattle.case_file.proofs.indexes.keys_of.Given as goal

abbrev pub invariant-loop-key : goal.invariant-loop-key
invariant-loop-key l = l.out.items ++ map (key_of (map view l.columns)) (map view (drop l.key-index l.keys)) ≡ map (key_of (map view l.columns)) (map view l.keys)
