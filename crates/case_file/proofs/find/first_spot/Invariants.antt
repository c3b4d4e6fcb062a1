use Rattle.std.proofs.Common.{◌≡◌, drop}
use Rattle.std.specs.List.{find}
use Rattle.toml.specs.View.{table_view}
use Rattle.case_rules.specs.Rules.{breaks}
use Rattle.case_rules.specs.Spots.{spots_view}
use Rattle.case_file.proofs.find.first_spot.Given as goal

abbrev pub invariant-loop-spot : goal.invariant-loop-spot
invariant-loop-spot l = find (breaks (table_view l.top) l.rule) (spots_view l.spots) ≡ find (breaks (table_view l.top) l.rule) (spots_view (drop l.spot-index l.spots))
