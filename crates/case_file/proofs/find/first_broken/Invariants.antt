use Rattle.std.proofs.Common.{◌≡◌, drop}
use Rattle.toml.specs.View.{table_view}
use Rattle.case_file.specs.Case.{first_broken}
use Rattle.case_rules.specs.Spots.{spots_view}
use Rattle.case_file.proofs.find.first_broken.Given as goal

abbrev pub invariant-loop-rule : goal.invariant-loop-rule
invariant-loop-rule l = first_broken (table_view l.top) (spots_view l.spots) l.rules ≡ first_broken (table_view l.top) (spots_view l.spots) (drop l.rule-index l.rules)
