-- The update that the table names is the transaction that removed the tuple.
use Rattle.std.proofs.Common.{◌≡◌, ◌≢◌, ℕ, Bool, true, false, not, ◌==◌, Option, Some, None, refl, sym, subst, ◌∙◌}
use Rattle.std.specs.Prelude.{if◌then◌else◌}
use Rattle.std.proofs.lemmas.Bool.{cond-true, cond-false}
use Rattle.outside.specs.Outside.{Names}
use Rattle.page_layout.specs.declared.rules.Rule.TheVariants.{H10, H11}
use Rattle.rel_files.specs.Ranges.{is_multi_in_range}
use Rattle.tuple_head.specs.declared.HeapHead.{HeapHead}
use Rattle.tuple_head.specs.Head.{is_locked_only, is_multi, is_xmax_committed, is_xmax_invalid}
use Rattle.xact_status.specs.declared.XidState.{XidState}
use Rattle.xact_status.specs.declared.XidState.TheVariants.{Committed, NotCommitted, Missing as StateMissing}
use Rattle.multi_members.specs.declared.state.MultiState.{MultiState}
use Rattle.multi_members.specs.declared.state.MultiState.TheVariants.{Updater, NoUpdater, Unfinished, TooLong, Missing}
use Rattle.liveness.specs.declared.states.Life.{Life}
use Rattle.liveness.specs.declared.states.Life.TheVariants.{Live, Dead, Broken as broken}
use Rattle.liveness.specs.declared.states.Judged.{Judged}
use Rattle.liveness.specs.LogFiles.{LogFiles, logs_of}
use Rattle.liveness.specs.Logs.{Logs, is_normal}
use Rattle.liveness.specs.Life.{HasRemover, UpdateSaysTrue, deleter_judged, inserter_life, judged_after, judged_by_multi, judged_by_status, judged_of, multi_of}
use Rattle.liveness.specs.Life.{plain, remover, remover_judged, updater_or_none}
use Rattle.liveness.proofs.Truth.{InserterSays, inserter_truth}

-- an update is 0 or x
IsOrNone : ℕ → ℕ → Type 0
IsOrNone update x = update ≢ 0 → update ≡ x

by_status : (st : XidState) (x : ℕ) → IsOrNone (judged_by_status st x).update x
unfolding IsOrNone
by_status StateMissing x = λ some. absurd (some refl)
by_status Committed x = λ some. refl
by_status NotCommitted x = λ some. refl

by_tests : (none normal inside hinted : Bool) (st : XidState) (x : ℕ)
    → IsOrNone
    (if none then plain Live else if not normal then record { life = Dead; update = x } else if not inside then plain
    (broken H11) else if hinted then record { life = Dead; update = x } else judged_by_status st x).update x
unfolding IsOrNone
by_tests true normal inside hinted st x = λ some. absurd (some refl)
by_tests false false inside hinted st x = λ some. refl
by_tests false true false hinted st x = λ some. absurd (some refl)
by_tests false true true true st x = λ some. refl
by_tests false true true false st x = by_status st x

remover_named : (logs : Logs) (hinted : Bool) (x : ℕ) → IsOrNone (remover_judged logs hinted x).update x
unfolding remover_judged
remover_named logs hinted x = by_tests (x == 0) (is_normal x) (logs.xid_in_range x) hinted (logs.status x) x

multi_named : (logs : Logs) (multi : MultiState) → IsOrNone (judged_by_multi logs multi).update (updater_or_none multi)
unfolding IsOrNone
multi_named logs Missing = λ some. absurd (some refl)
multi_named logs Unfinished = λ some. absurd (some refl)
multi_named logs TooLong = λ some. absurd (some refl)
multi_named logs NoUpdater = λ some. absurd (some refl)
multi_named logs (Updater x) = remover_named logs false x

module _ (names : Names) (files : LogFiles) (head : HeapHead) where
  -- what the deleter's part names
  changer_named : (multi inside : Bool) → multi ≡ is_multi head
      → IsOrNone
      (if multi then (if inside then judged_by_multi (logs_of names files) (multi_of names files head) else plain (broken H10)) else remover_judged
      (logs_of names files) (is_xmax_committed head) head.xmax).update (remover names files head)
  unfolding IsOrNone
  changer_named true true e = λ some.
      multi_named (logs_of names files) (multi_of names files head) some
      ∙ sym (cond-true (is_multi head) (updater_or_none (multi_of names files head)) head.xmax (sym e))
  changer_named true false e = λ some. absurd (some refl)
  changer_named false inside e = λ some.
      remover_named (logs_of names files) (is_xmax_committed head) head.xmax some
      ∙ sym (cond-false (is_multi head) (updater_or_none (multi_of names files head)) head.xmax (sym e))

  deleter_by : (invalid locked : Bool) → invalid ≡ is_xmax_invalid head → locked ≡ is_locked_only head
      → let judged =
      (if invalid then plain Live else if locked then plain Live else if is_multi head then
      (if is_multi_in_range files.cluster head.xmax then judged_by_multi (logs_of names files) (multi_of names files head) else plain
      (broken H10)) else remover_judged (logs_of names files) (is_xmax_committed head) head.xmax) in judged.update ≢ 0
      → HasRemover head × (judged.update ≡ remover names files head)
  unfolding IsOrNone
  deleter_by true locked e f = λ some. absurd (some refl)
  deleter_by false true e f = λ some. absurd (some refl)
  deleter_by false false e f = λ some. ((sym e, sym f), changer_named (is_multi head) (is_multi_in_range files.cluster head.xmax) refl some)

  deleter_named : (deleter_judged (logs_of names files) head).update ≢ 0
      → HasRemover head × ((deleter_judged (logs_of names files) head).update ≡ remover names files head)
  unfolding deleter_judged
  deleter_named = deleter_by (is_xmax_invalid head) (is_locked_only head) refl refl

  both_named : (first : Option Life) → InserterSays names files head first
      → UpdateSaysTrue names files head (judged_after first (deleter_judged (logs_of names files) head)).update
  unfolding InserterSays
  both_named (Some _) a = λ some. absurd (some refl)
  both_named None a = λ some. let named = deleter_named some in (a, named.0, named.1)

  pub update_truth : UpdateSaysTrue names files head (judged_of (logs_of names files) head).update
  unfolding judged_of
  update_truth = both_named (inserter_life (logs_of names files) head) (inserter_truth names files head)

pub update_says_true : (names : Names) (files : LogFiles) (head : HeapHead) (judged : Judged) → judged ≡ judged_of (logs_of names files) head
    → UpdateSaysTrue names files head judged.update
update_says_true names files head judged e =
    let P : Judged → Type 0 = λ j. UpdateSaysTrue names files head j.update in
    subst P (sym e) (update_truth names files head)
