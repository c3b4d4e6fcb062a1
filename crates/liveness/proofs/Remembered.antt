-- What is kept stays true.
use Rattle.std.proofs.Common.{◌≡◌, subst}
use Rattle.std.specs.Prelude.{Option, Some, IfSome}
use Rattle.outside.specs.Outside.{Names}
use Rattle.liveness.specs.declared.memory.Kept.{Kept}
use Rattle.liveness.specs.Memory.{KeptIsTrue}

-- of what is there, where there is something
pub kept_is_true : (names : Names) (o : Option Kept) (kept : Kept) → o ≡ Some kept → IfSome o (KeptIsTrue names) → KeptIsTrue names kept
kept_is_true names o kept is true_of =
    let P : Option Kept → Type 0 = λ it. IfSome it (KeptIsTrue names) in
    subst P is true_of
