use Rattle.std.proofs.Common.{◌≡◌, ◌-◌, ◌<◌, ℕ, get_or}
use Rattle.std.specs.Prelude.{None}
use Rattle.copy_out.specs.Escapes.{letter_of}
use Rattle.copy_out.proofs.escapes.may_have_in_many.Given as goal

-- none of the bytes so far has a letter
abbrev pub invariant-loop-at : goal.invariant-loop-at
invariant-loop-at l = (k : ℕ) → k < l.at → letter_of (get_or l.bytes k 0) ≡ None

abbrev pub decreases-loop-at : goal.decreases-loop-at
decreases-loop-at l = l.last - l.at
