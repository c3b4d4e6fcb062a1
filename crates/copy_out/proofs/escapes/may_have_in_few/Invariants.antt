use Rattle.std.proofs.Common.{◌≡◌, false, take}
use Rattle.copy_out.specs.Escapes.{escaped}
use Rattle.copy_out.proofs.escapes.may_have_in_few.Given as goal

-- the bytes so far stay as they are, unless one was found
abbrev pub invariant-loop-b : goal.invariant-loop-b
invariant-loop-b l = l.found ≡ false → escaped (take l.b-index l.bytes) ≡ take l.b-index l.bytes
