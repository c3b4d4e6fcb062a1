use Rattle.std.proofs.Common.{◌≡◌, ◌++◌, drop, map}
use Rattle.toml.specs.View.{view}
use Rattle.case_text.specs.Written.{more_data}
use Rattle.case_text.proofs.document.more_values.Given as goal

abbrev pub invariant-loop-k : goal.invariant-loop-k
invariant-loop-k l = map view l.out.items ++ map (more_data l.columns) (drop l.k-index l.more) ≡ map (more_data l.columns) l.more
