-- What the logs say of a tuple, by the sentences.
use Rattle.std.proofs.Common.{◌≡◌, subst}
use Rattle.outside.specs.Outside.{Names}
use Rattle.page_layout.specs.declared.rules.Rule.{Rule}
use Rattle.tuple_head.specs.declared.HeapHead.{HeapHead}
use Rattle.liveness.specs.Life.{BreaksRule, IsDeleted, IsInDoubt, IsInserted, SaysTrue, life_of}
use Rattle.liveness.specs.LogFiles.{LogFiles, logs_of}
use Rattle.liveness.specs.declared.states.Doubt.{Doubt}
use Rattle.liveness.specs.declared.states.Life.{Life}
use Rattle.liveness.specs.declared.states.Life.TheVariants.{Broken, Dead, Live, Unjudged}
use Rattle.liveness.proofs.Truth.{life_truth}

module _ (names : Names) (files : LogFiles) (head : HeapHead) where
  abbrev life_here : Life
  life_here = life_of (logs_of names files) head

  says : (l : Life) → life_here ≡ l → SaysTrue names files head l
  says l e = subst (λ (m : Life). SaysTrue names files head m) e (life_truth names files head)

  pub live_is : life_here ≡ Live → IsInserted names files head × (IsDeleted names files head → ⊥)
  live_is e = says Live e

  pub dead_is : life_here ≡ Dead → IsInserted names files head → IsDeleted names files head
  dead_is e = says Dead e

  pub broken_is : (rule : Rule) → life_here ≡ Broken rule → BreaksRule names files head rule
  broken_is rule e = says (Broken rule) e

  pub doubt_is : (doubt : Doubt) → life_here ≡ Unjudged doubt → IsInDoubt names files head doubt
  doubt_is doubt e = says (Unjudged doubt) e
