use Rattle.std.proofs.Common.{◌≡◌, ◌++◌, drop, false}
use Rattle.copy_out.specs.Readings.{unescaped}
use Rattle.copy_out.proofs.read_fields.read_escaped.Given as goal

-- what is read and what is left to read are all
abbrev pub invariant-loop-b : goal.invariant-loop-b
invariant-loop-b l = l.bytes.items ++ unescaped (drop l.b-index l.text) l.behind ≡ unescaped l.text false
