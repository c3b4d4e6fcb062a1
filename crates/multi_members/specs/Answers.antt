-- What is kept of multixacts that were looked up.
use Rattle.std.specs.Prelude.{◌≡◌, ℕ, List, Option, Some, None, All, IfSome}
use Rattle.std.specs.Coded.{Coded-set, Unit-prop, Π_prop}
use Rattle.outside.specs.Outside.{Names}
use Rattle.rel_files.specs.Slru.{dir_of}
use Rattle.rel_files.specs.declared.cluster.Cluster.{Cluster}
use Rattle.multi_members.specs.declared.answers.Answer.{Answer}
use Rattle.multi_members.specs.declared.answers.Answers.{Answers}
use Rattle.multi_members.specs.contracts.state.MultiState as multi_state
use Rattle.multi_members.specs.Updater.{updater_of}

-- they are for these folders and numbers
pub record AreFor (offsets members : List ℕ) (cluster : Cluster) (answers : Answers) : Type 0 where
  pub by_offsets : dir_of answers.offsets ≡ offsets
  pub by_members : dir_of answers.members ≡ members
  pub by_cluster : answers.cluster ≡ cluster

-- an answer is what these names say
abbrev pub IsTrueOf : Names → List ℕ → List ℕ → Cluster → Answer → Type 0
IsTrueOf names offsets members cluster answer = answer.state ≡ updater_of names offsets members cluster answer.multi

-- the same of a place, where it has an answer
abbrev pub PlaceIsTrue : Names → List ℕ → List ℕ → Cluster → Option Answer → Type 0
PlaceIsTrue names offsets members cluster place = IfSome place (IsTrueOf names offsets members cluster)

-- each of them is
unfoldable pub AreTrue : Names → Answers → Type 0
AreTrue names answers =
    All (PlaceIsTrue names (dir_of answers.offsets) (dir_of answers.members) answers.cluster) answers.places.items

-- each of these facts has one proof at most
PlaceIsTrue-prop : (names : Names) (offsets members : List ℕ) (cluster : Cluster) (place : Option Answer)
    → IsProp (PlaceIsTrue names offsets members cluster place)
PlaceIsTrue-prop names offsets members cluster None = Unit-prop
PlaceIsTrue-prop names offsets members cluster (Some answer) = Coded-set multi_state.the_row.coded _ _

pub AreTrue-prop : (names : Names) (answers : Answers) → IsProp (AreTrue names answers)
unfolding AreTrue
AreTrue-prop names answers =
    let each = PlaceIsTrue-prop names (dir_of answers.offsets) (dir_of answers.members) answers.cluster in
    Π_prop (λ at. Π_prop (λ other. Π_prop (λ below. each _)))
