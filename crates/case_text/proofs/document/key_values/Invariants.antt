use Rattle.std.proofs.Common.{◌≡◌, ◌++◌, drop, map}
use Rattle.toml.specs.View.{view}
use Rattle.case_text.specs.Written.{key_data}
use Rattle.case_text.proofs.document.key_values.Given as goal

abbrev pub invariant-loop-key : goal.invariant-loop-key
invariant-loop-key l = map view l.out.items ++ map (key_data l.columns) (drop l.key-index l.keys) ≡ map (key_data l.columns) l.keys
