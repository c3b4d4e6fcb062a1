use Rattle.std.proofs.Common.{◌≡◌, ◌++◌, drop}
use Rattle.toml.specs.View.{table_view}
use Rattle.case_rules.specs.Spots.{listed_all, spots_view}
use Rattle.case_rules.proofs.spots.add_keys.Given as goal

abbrev pub invariant-loop-key : goal.invariant-loop-key
invariant-loop-key l = spots_view l.spots.items ++ listed_all l.place (table_view l.table) (drop l.key-index l.keys)
    ≡ spots_view l.initial.spots.items ++ listed_all l.place (table_view l.table) l.keys
