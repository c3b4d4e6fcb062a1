use Rattle.std.proofs.Common.{◌≡◌}
use Rattle.rel_build.specs.Rows.{number_after, rows_below}
use Rattle.rel_build.proofs.rows.rows_below.Given as goal

abbrev pub invariant-loop-id : goal.invariant-loop-id
invariant-loop-id l = (l.rows.items ≡ rows_below l.seed l.id) × (l.x ≡ number_after l.seed l.id)
