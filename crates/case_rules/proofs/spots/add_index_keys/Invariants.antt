use Rattle.std.proofs.Common.{◌≡◌, ◌++◌, drop, map}
use Rattle.toml.specs.View.{view}
use Rattle.case_rules.specs.Spots.{flat_map_from, key_spots, spots_view}
use Rattle.case_rules.proofs.spots.add_index_keys.Given as goal

abbrev pub invariant-loop-j : goal.invariant-loop-j
invariant-loop-j l = spots_view l.spots.items ++ flat_map_from (key_spots l.k) l.j (map view (drop l.j l.keys))
    ≡ spots_view l.initial.spots.items ++ flat_map_from (key_spots l.k) 0 (map view l.keys)
