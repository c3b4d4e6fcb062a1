use Rattle.std.proofs.Common.{◌≡◌, drop}
use Rattle.std.specs.Prelude.{find}
use Rattle.toml.specs.View.{table_view}
use Rattle.case_rules.specs.Rules.{is_told}
use Rattle.case_rules.proofs.rules.first_told.Given as goal

abbrev pub invariant-loop-ctype : goal.invariant-loop-ctype
invariant-loop-ctype l = find (is_told (table_view l.column)) l.types ≡ find (is_told (table_view l.column)) (drop l.ctype-index l.types)
