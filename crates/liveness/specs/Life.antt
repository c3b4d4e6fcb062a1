-- Whether a tuple is live or dead.
use Rattle.std.specs.Prelude.{◌≡◌, ◌≢◌, ◌≤◌, ℕ, Bool, true, false, not, ◌==◌, ◌&&◌, ◌⊎◌, if◌then◌else◌, Option, Some}
use Rattle.std.specs.Prelude.{None}
use Rattle.outside.specs.Outside.{Names}
use Rattle.page_layout.specs.declared.rules.Rule.{Rule}
use Rattle.page_layout.specs.declared.rules.Rule.TheVariants.{H9, H10, H11, H12, H13}
use Rattle.rel_files.specs.Ranges.{is_multi_in_range, is_xid_in_range}
use Rattle.tuple_head.specs.declared.HeapHead.{HeapHead}
use Rattle.tuple_head.specs.Head.{is_hinted_invalid, is_locked_only, is_multi, is_old_form, is_xmax_committed}
use Rattle.tuple_head.specs.Head.{is_xmax_invalid, is_xmin_committed, seen_xmin}
use Rattle.xact_status.specs.Status.{IsCommitted, IsMissing}
use Rattle.xact_status.specs.declared.XidState.{XidState}
use Rattle.xact_status.specs.declared.XidState.TheVariants.{Committed, NotCommitted, Missing as StateMissing}
use Rattle.multi_members.specs.Updater.{updater_of}
use Rattle.multi_members.specs.declared.state.MultiState.{MultiState}
use Rattle.multi_members.specs.declared.state.MultiState.TheVariants.{Updater, NoUpdater, Unfinished, TooLong, Missing}
use Rattle.liveness.specs.declared.states.Doubt.{Doubt}
use Rattle.liveness.specs.declared.states.Doubt.TheVariants.{U1, U2, U3}
use Rattle.liveness.specs.declared.states.Life.{Life}
use Rattle.liveness.specs.declared.states.Life.TheVariants.{Live, Dead, Unjudged, Broken as broken}
use Rattle.liveness.specs.declared.states.Judged.{Judged}
use Rattle.liveness.specs.Logs.{Logs, is_normal}
use Rattle.liveness.specs.LogFiles.{LogFiles}

-- a seen inserter that isn't known to have failed, and is known to have committed
abbrev pub IsInserted : Names → LogFiles → HeapHead → Type 0
IsInserted names files head =
    (seen_xmin head ≢ 0) × (is_hinted_invalid head ≡ false)
    × ((is_xmin_committed head ≡ true) ⊎ IsCommitted names files.xact (seen_xmin head))

-- xmax counts, and doesn't only lock
abbrev pub HasRemover : HeapHead → Type 0
HasRemover head = (is_xmax_invalid head ≡ false) × (is_locked_only head ≡ false)

-- the updater of a multixact, 0 where there is none
abbrev pub updater_or_none : MultiState → ℕ
updater_or_none (Updater x) = x
updater_or_none NoUpdater = 0
updater_or_none Unfinished = 0
updater_or_none TooLong = 0
updater_or_none Missing = 0

-- what the multixact in xmax says
abbrev pub multi_of : Names → LogFiles → HeapHead → MultiState
multi_of names files head = updater_of names files.offsets files.members files.cluster head.xmax

-- the transaction that deleted or updated the tuple, if it did
abbrev pub remover : Names → LogFiles → HeapHead → ℕ
remover names files head = if is_multi head then updater_or_none (multi_of names files head) else head.xmax

-- a hint says that it committed, of a transaction that stands alone
abbrev pub IsHintedDeleted : HeapHead → Type 0
IsHintedDeleted head = (is_xmax_committed head ≡ true) × (is_multi head ≡ false)

-- it did: it committed, or a hint says so
abbrev pub IsDeleted : Names → LogFiles → HeapHead → Type 0
IsDeleted names files head =
    HasRemover head × (remover names files head ≢ 0)
    × (IsCommitted names files.xact (remover names files head) ⊎ IsHintedDeleted head)

-- an inserted tuple whose remover stands in a multixact that is in range and in this state
abbrev pub HangsOnMulti : Names → LogFiles → HeapHead → MultiState → Type 0
HangsOnMulti names files head state =
    IsInserted names files head × HasRemover head × (is_multi head ≡ true)
    × (is_multi_in_range files.cluster head.xmax ≡ true) × (multi_of names files head ≡ state)

-- a tuple of which it is left open whether it is live: of an old form, or its multixact isn't written or is too long
abbrev pub IsInDoubt : Names → LogFiles → HeapHead → Doubt → Type 0
IsInDoubt names files head U1 = is_old_form head ≡ true
IsInDoubt names files head U2 = HangsOnMulti names files head Unfinished
IsInDoubt names files head U3 = HangsOnMulti names files head TooLong

-- a transaction that was never given out, or not any more
abbrev pub IsOutOfRange : LogFiles → ℕ → Type 0
IsOutOfRange files xid = (3 ≤ xid) × (is_xid_in_range files.cluster xid ≡ false)

-- a tuple that breaks a rule: its inserter is out of range, or its multixact, or its remover; the byte that says
-- whether its inserter or its remover committed isn't held, where no hint says it; or some byte of its multixact isn't
abbrev pub BreaksRule : Names → LogFiles → HeapHead → Rule → Type 0
BreaksRule names files head H9 = IsOutOfRange files (seen_xmin head)
BreaksRule names files head H10 =
    IsInserted names files head × HasRemover head × (is_multi head ≡ true)
    × (is_multi_in_range files.cluster head.xmax ≡ false)
BreaksRule names files head H11 =
    IsInserted names files head × HasRemover head × IsOutOfRange files (remover names files head)
BreaksRule names files head H12 =
    ((is_hinted_invalid head ≡ false) × (is_xmin_committed head ≡ false)
    × IsMissing names files.xact (seen_xmin head))
    ⊎ (IsInserted names files head × HasRemover head × (IsHintedDeleted head → ⊥)
    × IsMissing names files.xact (remover names files head))
BreaksRule names files head H13 = HangsOnMulti names files head Missing
BreaksRule names files head _ = ⊥

-- a live tuple is inserted and not deleted, a dead one isn't, and of the others one of these sentences is true
abbrev pub SaysTrue : Names → LogFiles → HeapHead → Life → Type 0
SaysTrue names files head Live = IsInserted names files head × (IsDeleted names files head → ⊥)
SaysTrue names files head Dead = IsInserted names files head → IsDeleted names files head
SaysTrue names files head (Unjudged doubt) = IsInDoubt names files head doubt
SaysTrue names files head (broken rule) = BreaksRule names files head rule

-- an update that is named is the transaction that deleted or updated an inserted tuple, or would have, had it
-- committed
abbrev pub UpdateSaysTrue : Names → LogFiles → HeapHead → ℕ → Type 0
UpdateSaysTrue names files head update =
    update ≢ 0 → IsInserted names files head × HasRemover head × (update ≡ remover names files head)

-- a broken rule is told
abbrev pub TellsRule : Life → Type 0
TellsRule life = (rule : Rule) × (life ≡ broken rule)

-- what the log says of an inserter
abbrev pub life_by_status : XidState → Option Life
life_by_status StateMissing = Some (broken H12)
life_by_status Committed = None
life_by_status NotCommitted = Some Dead

-- the inserter's part of the table; None goes on to the deleter's part
unfoldable pub inserter_life : Logs → HeapHead → Option Life
inserter_life logs head =
    if is_old_form head then Some (Unjudged U1)
    else if seen_xmin head == 0 then Some Dead
    else if is_normal (seen_xmin head) && not (logs.xid_in_range (seen_xmin head)) then Some (broken H9)
    else if is_hinted_invalid head then Some Dead
    else if is_normal (seen_xmin head) && not (is_xmin_committed head) then life_by_status
    (logs.status (seen_xmin head))
    else None

abbrev pub plain : Life → Judged
plain life = record { life = life; update = 0 }

-- what the log says of the deleter x
abbrev pub judged_by_status : XidState → ℕ → Judged
judged_by_status StateMissing x = plain (broken H12)
judged_by_status Committed x = record { life = Dead; update = x }
judged_by_status NotCommitted x = record { life = Live; update = x }

-- the table's part for a deleter x, hinted committed or not
unfoldable pub remover_judged : Logs → Bool → ℕ → Judged
remover_judged logs hinted x =
    if x == 0 then plain Live
    else if not (is_normal x) then record { life = Dead; update = x }
    else if not (logs.xid_in_range x) then plain (broken H11)
    else if hinted then record { life = Dead; update = x }
    else judged_by_status (logs.status x) x

abbrev pub judged_by_multi : Logs → MultiState → Judged
judged_by_multi logs Missing = plain (broken H13)
judged_by_multi logs Unfinished = plain (Unjudged U2)
judged_by_multi logs TooLong = plain (Unjudged U3)
judged_by_multi logs NoUpdater = plain Live
judged_by_multi logs (Updater x) = remover_judged logs false x

-- the deleter's part of the table
unfoldable pub deleter_judged : Logs → HeapHead → Judged
deleter_judged logs head =
    if is_xmax_invalid head then plain Live
    else if is_locked_only head then plain Live
    else if is_multi head then (
    if logs.multi_in_range head.xmax then judged_by_multi logs (logs.updater head.xmax) else plain (broken H10)
    )
    else remover_judged logs (is_xmax_committed head) head.xmax

abbrev pub judged_after : Option Life → Judged → Judged
judged_after (Some life) next = plain life
judged_after None next = next

-- what is known of a tuple
unfoldable pub judged_of : Logs → HeapHead → Judged
judged_of logs head = judged_after (inserter_life logs head) (deleter_judged logs head)

-- whether it is live
abbrev pub life_of : Logs → HeapHead → Life
life_of logs head = (judged_of logs head).life
