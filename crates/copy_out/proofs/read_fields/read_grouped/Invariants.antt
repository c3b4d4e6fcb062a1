use Rattle.std.proofs.Common.{◌≡◌, take}
use Rattle.copy_out.specs.Readings.{without_hyphens}
use Rattle.copy_out.proofs.read_fields.read_grouped.Given as goal

abbrev pub invariant-loop-b : goal.invariant-loop-b
invariant-loop-b l = l.digits.items ≡ without_hyphens (take l.b-index l.text)
