use Rattle.std.proofs.Common.{◌≡◌, ◌↔◌, Bool, List, true}
use Rattle.std.specs.Prelude.{None, Option, Some, is_some}
use Rattle.std.proofs.lemmas.Bool.{both_ways}
use Rattle.outside.specs.Outside.{Names}
use Rattle.key_orders.specs.declared.columns.Value.{Value}
use Rattle.key_orders.specs.declared.Tid.{Tid}
use Rattle.bt_levels.specs.declared.sound.SoundTree.{SoundTree}
use Rattle.bt_levels.specs.Sound.{image_of}
use Rattle.bt_steps.specs.Sought.{HasAlive}
use Rattle.bt_search.specs.declared.spot.Spot.{Spot}
use Rattle.bt_search.specs.Lookups.{IsAtSpot, IsLookedUp}
use Rattle.bt_search.proofs.look_up.probe.Goals as goal

-- a spot is found exactly where there is an entry
told-by : (names : Names) (sound : SoundTree) (key : List Value) (tid : Tid)
    → ((at : Spot) → IsAtSpot names sound key tid at → HasAlive (image_of names sound) key tid)
    → (found : Option Spot) (r : Bool) → r ≡ is_some found → IsLookedUp names sound key tid found → (r ≡ true) ↔ HasAlive (image_of names sound) key tid
told-by names sound key tid entry (Some at) r is there = (λ t. entry at there, λ h. is)
told-by names sound key tid entry None r is none = (
  λ t. absurd (both_ways r is t),
  λ h. absurd (both_ways h.entry.killed h.alive (none h.entry h.among h.sought)),
)

pub returns-clause-found : goal.returns-clause-found
returns-clause-found g c = λ names told.
    let tree = c.args.tree.now in
    let key = c.args.sought.key.now in
    let tid = c.args.sought.tid in
    told-by names tree key tid (λ at there. c.spots_are_of_entries.ensures names tree key tid at (c.requires.holds names told) there)
    c.in_ok-found.found c.is_some.result c.is_some.ensures (c.in_ok-found.ensures.found names told)
