-- What is remembered of transactions.
use Rattle.std.specs.Prelude.{◌≡◌, Option, Some, None, IfSome}
use Rattle.std.specs.Coded.{Unit-prop, Π_prop}
use Rattle.outside.specs.Outside.{Held, Names}
use Rattle.xact_status.specs.Pieces.{AreTrue as states_are_true, AreTrue-prop as states_are_true-prop}
use Rattle.multi_members.specs.Answers.{AreTrue as answers_are_true, AreTrue-prop as answers_are_true-prop}
use Rattle.liveness.specs.declared.memory.Kept.{Kept}
use Rattle.liveness.specs.declared.memory.Memory.{Memory}

-- what is kept is what these names say
pub record KeptIsTrue (names : Names) (kept : Kept) : Type 0 where
  pub states : states_are_true names kept.states
  pub answers : answers_are_true names kept.answers

-- the same of a memory, which may keep nothing
abbrev pub RemembersTrue : Names → Memory → Type 0
RemembersTrue names memory = IfSome memory.kept (KeptIsTrue names)

-- it is true of what files hold, where it is told
abbrev pub RemembersTrueOf : Held → Memory → Type 0
RemembersTrueOf held memory = (names : Names) → held ≡ Some names → RemembersTrue names memory

-- each of these facts has one proof at most
KeptIsTrue-prop : (names : Names) (kept : Kept) → IsProp (KeptIsTrue names kept)
KeptIsTrue-prop names kept a b = λ i. record {
  states = states_are_true-prop names kept.states a.states b.states i;
  answers = answers_are_true-prop names kept.answers a.answers b.answers i;
}

if_kept : (names : Names) (kept : Option Kept) → IsProp (IfSome kept (KeptIsTrue names))
if_kept names None = Unit-prop
if_kept names (Some kept) = KeptIsTrue-prop names kept

pub RemembersTrueOf-prop : (held : Held) (memory : Memory) → IsProp (RemembersTrueOf held memory)
RemembersTrueOf-prop held memory = Π_prop (λ names. Π_prop (λ told. if_kept names memory.kept))
