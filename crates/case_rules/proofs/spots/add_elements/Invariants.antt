use Rattle.std.proofs.Common.{◌≡◌, ◌++◌, drop, map}
use Rattle.toml.specs.View.{view}
use Rattle.case_rules.specs.Spots.{element_spots, flat_map_from, spots_view}
use Rattle.case_rules.proofs.spots.add_elements.Given as goal

abbrev pub invariant-loop-j : goal.invariant-loop-j
invariant-loop-j l = spots_view l.spots.items ++ flat_map_from (element_spots l.place l.key) l.j (map view (drop l.j l.values))
    ≡ spots_view l.initial.spots.items ++ flat_map_from (element_spots l.place l.key) 0 (map view l.values)
