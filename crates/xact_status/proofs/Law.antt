-- The state of a transaction is what its sentences say.
use Rattle.std.proofs.Common.{ℕ, List, arith}
use Rattle.std.proofs.lemmas.Grind.{common_steps}
use Rattle.outside.specs.Outside.{Names}
use Rattle.xact_status.specs.Status.{SaysTrue, status_of}

pub status_says_true : (names : Names) (folder : List ℕ) (xid : ℕ) → SaysTrue names folder xid (status_of names folder xid)
unfolding status_of
status_says_true names folder xid = grind (arith, common_steps)
