use Rattle.std.proofs.Common.{◌≡◌, ◌++◌, drop, map}
use Rattle.toml.specs.View.{view}
use Rattle.case_rules.specs.Spots.{flat_map_from, index_spots, spots_view}
use Rattle.case_rules.proofs.spots.add_indexes.Given as goal

abbrev pub invariant-loop-k : goal.invariant-loop-k
invariant-loop-k l = spots_view l.spots.items ++ flat_map_from index_spots l.k (map view (drop l.k l.indexes))
    ≡ spots_view l.initial.spots.items ++ flat_map_from index_spots 0 (map view l.indexes)
