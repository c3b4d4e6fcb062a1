-- What the logs of transactions and multixacts say.
use Rattle.std.specs.Prelude.{ℕ, Bool, nat_le}
use Rattle.xact_status.specs.declared.XidState.{XidState}
use Rattle.multi_members.specs.declared.state.MultiState.{MultiState}

-- whether numbers are in range, the state of a transaction, and what a multixact says of an updater
pub record Logs : Type 0 where
  pub xid_in_range : ℕ → Bool
  pub multi_in_range : ℕ → Bool
  pub status : ℕ → XidState
  pub updater : ℕ → MultiState

-- from 3 on a transaction is normal
abbrev pub is_normal : ℕ → Bool
is_normal x = nat_le 3 x
