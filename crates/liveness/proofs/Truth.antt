-- The table of lives says what its words say.
use Rattle.std.proofs.Common.{◌≡◌, ◌≢◌, ℕ, ◌⊎◌, inl, inr, Bool, true, false, not, ◌==◌, ◌&&◌, Option, Some, None, refl, sym, subst, ◌∙◌, arith}
use Rattle.std.specs.Prelude.{if◌then◌else◌}
use Rattle.std.proofs.lemmas.Bool.{cases_eq, cond-true, cond-false, eqb-true, eqb-false, leb-true, leb-false, and_parts, and_cases}
use Rattle.outside.specs.Outside.{Names}
use Rattle.page_layout.specs.declared.rules.Rule.TheVariants.{H9, H10, H11}
use Rattle.rel_files.specs.Ranges.{is_multi_in_range, is_xid_in_range}
use Rattle.tuple_head.specs.declared.HeapHead.{HeapHead}
use Rattle.tuple_head.specs.Head.{is_hinted_invalid, is_locked_only, is_multi, is_old_form, is_xmax_committed, is_xmax_invalid, is_xmin_committed, seen_xmin}
use Rattle.xact_status.specs.Status.{IsCommitted, IsMissing, status_of}
use Rattle.xact_status.specs.declared.XidState.{XidState}
use Rattle.xact_status.specs.declared.XidState.TheVariants.{Committed, NotCommitted, Missing as StateMissing}
use Rattle.xact_status.proofs.Law.{status_says_true}
use Rattle.multi_members.specs.declared.state.MultiState.{MultiState}
use Rattle.multi_members.specs.declared.state.MultiState.TheVariants.{Updater, NoUpdater, Unfinished, TooLong, Missing}
use Rattle.liveness.specs.declared.states.Doubt.TheVariants.{U1}
use Rattle.liveness.specs.declared.states.Life.{Life}
use Rattle.liveness.specs.declared.states.Life.TheVariants.{Live, Dead, Unjudged, Broken as broken}
use Rattle.liveness.specs.declared.states.Judged.{Judged}
use Rattle.liveness.specs.LogFiles.{LogFiles, logs_of}
use Rattle.liveness.specs.Logs.{is_normal}
use Rattle.liveness.specs.Life.{BreaksRule, HasRemover, IsDeleted, IsHintedDeleted, IsInDoubt, IsInserted, IsOutOfRange, SaysTrue, deleter_judged, inserter_life, judged_after}
use Rattle.liveness.specs.Life.{judged_by_multi, judged_by_status, judged_of, life_by_status, multi_of, plain, remover, remover_judged, updater_or_none}

not_yes : (b : Bool) → not b ≡ true → b ≡ false
not_yes true e = absurd cc
not_yes false e = refl

not_nay : (b : Bool) → not b ≡ false → b ≡ true
not_nay true e = refl
not_nay false e = absurd cc

-- what the inserter's part says
unfoldable pub InserterSays : Names → LogFiles → HeapHead → Option Life → Type 0
InserterSays names files head None = IsInserted names files head
InserterSays names files head (Some Live) = ⊥
InserterSays names files head (Some Dead) = IsInserted names files head → ⊥
InserterSays names files head (Some (Unjudged doubt)) = IsInDoubt names files head doubt
InserterSays names files head (Some (broken rule)) = BreaksRule names files head rule

-- what the deleter's part says
unfoldable pub DeleterSays : Names → LogFiles → HeapHead → Life → Type 0
DeleterSays names files head Live = IsDeleted names files head → ⊥
DeleterSays names files head Dead = IsDeleted names files head
DeleterSays names files head (Unjudged doubt) = IsInDoubt names files head doubt
DeleterSays names files head (broken rule) = BreaksRule names files head rule

module _ (names : Names) (files : LogFiles) (head : HeapHead) where
  -- a transaction that isn't normal and isn't 0 is 1 or 2
  low_is_committed : (x : ℕ) → x ≢ 0 → is_normal x ≡ false → IsCommitted names files.xact x
  low_is_committed x some low =
      let b = leb-false 3 x low in
      elim (cases_eq x 1) [ inl e ↦ inl e | inr ne ↦ inr (inl (omega arith)) ]

  by_log : (x : ℕ) → Committed ≡ status_of names files.xact x → IsCommitted names files.xact x
  by_log x e = (status_says_true names files.xact x).committed.0 (sym e)

  in_log : (x : ℕ) → NotCommitted ≡ status_of names files.xact x → IsCommitted names files.xact x → ⊥
  in_log x e committed = absurd (let f = (status_says_true names files.xact x).committed.1 committed in cc)

  not_in_log : (x : ℕ) → StateMissing ≡ status_of names files.xact x → IsMissing names files.xact x
  not_in_log x e = (status_says_true names files.xact x).missing.0 (sym e)

  out_of_range : (x : ℕ) → is_normal x ≡ true → not (is_xid_in_range files.cluster x) ≡ true → IsOutOfRange files x
  out_of_range x normal outside = (leb-true 3 x normal, not_yes (is_xid_in_range files.cluster x) outside)

  inserter_by_status : (state : XidState) → state ≡ status_of names files.xact (seen_xmin head) → seen_xmin head ≢ 0 → is_hinted_invalid head ≡ false
      → is_xmin_committed head ≡ false → InserterSays names files head (life_by_status state)
  unfolding InserterSays
  inserter_by_status StateMissing e some valid bare = inl (valid, bare, not_in_log (seen_xmin head) e)
  inserter_by_status Committed e some valid bare = (some, valid, inr (by_log (seen_xmin head) e))
  inserter_by_status NotCommitted e some valid bare = λ inserted. elim inserted.2 [
    | inl hinted ↦ absurd cc
    | inr committed ↦ in_log (seen_xmin head) e committed
  ]

  inserter_by : (old none outside invalid asks : Bool) → old ≡ is_old_form head → none ≡ (seen_xmin head == 0)
      → outside ≡ (is_normal (seen_xmin head) && not (is_xid_in_range files.cluster (seen_xmin head))) → invalid ≡ is_hinted_invalid head
      → asks ≡ (is_normal (seen_xmin head) && not (is_xmin_committed head))
      → InserterSays names files head (if old then Some (Unjudged U1) else if none then Some Dead else if outside then Some (broken H9)
      else if invalid then Some Dead else if asks then life_by_status (status_of names files.xact (seen_xmin head)) else None)
  unfolding InserterSays
  inserter_by true none outside invalid asks o e r f g = sym o
  inserter_by false true outside invalid asks o e r f g = λ inserted. inserted.0 (eqb-true (seen_xmin head) 0 (sym e))
  inserter_by false false true invalid asks o e r f g =
      let parts = and_parts (is_normal (seen_xmin head)) (not (is_xid_in_range files.cluster (seen_xmin head))) (sym r) in
      out_of_range (seen_xmin head) parts.0 parts.1
  inserter_by false false false true asks o e r f g = λ inserted. absurd (let v = inserted.1 in cc)
  inserter_by false false false false true o e r f g =
      let parts = and_parts (is_normal (seen_xmin head)) (not (is_xmin_committed head)) (sym g) in
      inserter_by_status (status_of names files.xact (seen_xmin head)) refl (eqb-false (seen_xmin head) 0 (sym e)) (sym f)
      (not_yes (is_xmin_committed head) parts.1)
  inserter_by false false false false false o e r f g =
      let some = eqb-false (seen_xmin head) 0 (sym e) in (
        some,
        sym f,
        elim (and_cases (is_normal (seen_xmin head)) (not (is_xmin_committed head)) (sym g)) [
          | inl low ↦ inr (low_is_committed (seen_xmin head) some low)
          | inr hinted ↦ inl (not_nay (is_xmin_committed head) hinted)
        ],
      )

  pub inserter_truth : InserterSays names files head (inserter_life (logs_of names files) head)
  unfolding inserter_life
  inserter_truth =
      inserter_by (is_old_form head) (seen_xmin head == 0) (is_normal (seen_xmin head) && not (is_xid_in_range files.cluster (seen_xmin head)))
      (is_hinted_invalid head) (is_normal (seen_xmin head) && not (is_xmin_committed head)) refl refl refl refl refl

-- the deleter's part of an inserted tuple that has a remover
module _ (names : Names) (files : LogFiles) (head : HeapHead) (inserted : IsInserted names files head) (has : HasRemover head) where
  deleted : (x : ℕ) → remover names files head ≡ x → x ≢ 0 → IsCommitted names files.xact x ⊎ IsHintedDeleted head
      → IsDeleted names files head
  deleted x same some committed =
      let P : ℕ → Type 0 = λ y. HasRemover head × (y ≢ 0) × (IsCommitted names files.xact y ⊎ IsHintedDeleted head) in
      subst P (sym same) (has, some, committed)

  remover_by_status : (x : ℕ) (state : XidState) → remover names files head ≡ x → x ≢ 0
      → (IsHintedDeleted head → ⊥) → state ≡ status_of names files.xact x
      → DeleterSays names files head (judged_by_status state x).life
  unfolding DeleterSays
  remover_by_status x StateMissing same some bare e =
      let P : ℕ → Type 0 = IsMissing names files.xact in
      inr (inserted, has, bare, subst P (sym same) (not_in_log names files head x e))
  remover_by_status x Committed same some bare e = deleted x same some (inl (by_log names files head x e))
  remover_by_status x NotCommitted same some bare e = λ is. elim is.2 [
    | inl committed ↦ let P : ℕ → Type 0 = IsCommitted names files.xact in in_log names files head x e (subst P same committed)
    | inr hinted ↦ bare hinted
  ]

  remover_by : (x : ℕ) (none normal inside hinted : Bool) → remover names files head ≡ x → none ≡ (x == 0) → normal ≡ is_normal x
      → inside ≡ is_xid_in_range files.cluster x
      → (hinted ≡ true → IsHintedDeleted head)
      → (hinted ≡ false → IsHintedDeleted head → ⊥)
      → DeleterSays names files head
      (if none then plain Live else if not normal then record { life = Dead; update = x } else if not inside then plain (broken H11)
      else if hinted then record { life = Dead; update = x } else judged_by_status (status_of names files.xact x) x).life
  unfolding DeleterSays
  remover_by x true normal inside hinted same e f r hint bare = λ is. is.1 (same ∙ eqb-true x 0 (sym e))
  remover_by x false false inside hinted same e f r hint bare =
      let some = eqb-false x 0 (sym e) in
      deleted x same some (inl (low_is_committed names files head x some (sym f)))
  remover_by x false true false hinted same e f r hint bare =
      let P : ℕ → Type 0 = IsOutOfRange files in
      (inserted, has, subst P (sym same) (leb-true 3 x (sym f), sym r))
  remover_by x false true true true same e f r hint bare = deleted x same (eqb-false x 0 (sym e)) (inr (hint refl))
  remover_by x false true true false same e f r hint bare =
      remover_by_status x (status_of names files.xact x) same (eqb-false x 0 (sym e)) (bare refl) refl

  remover_truth : (x : ℕ) (hinted : Bool) → remover names files head ≡ x → (hinted ≡ true → IsHintedDeleted head)
      → (hinted ≡ false → IsHintedDeleted head → ⊥)
      → DeleterSays names files head (remover_judged (logs_of names files) hinted x).life
  unfolding remover_judged
  remover_truth x hinted same hint bare =
      remover_by x (x == 0) (is_normal x) (is_xid_in_range files.cluster x) hinted same refl refl refl hint bare

  multi_truth : (m : MultiState) → multi_of names files head ≡ m → is_multi head ≡ true → is_multi_in_range files.cluster head.xmax ≡ true
      → remover names files head ≡ updater_or_none m → DeleterSays names files head (judged_by_multi (logs_of names files) m).life
  unfolding DeleterSays
  multi_truth Missing is multi inside same = (inserted, has, multi, inside, is)
  multi_truth Unfinished is multi inside same = (inserted, has, multi, inside, is)
  multi_truth TooLong is multi inside same = (inserted, has, multi, inside, is)
  multi_truth NoUpdater is multi inside same = λ deleted. deleted.1 same
  multi_truth (Updater x) is multi inside same = remover_truth x false same (λ e. absurd cc) (λ e both. absurd (let f = both.1 in cc))

  changer_by : (multi inside : Bool) → multi ≡ is_multi head → inside ≡ is_multi_in_range files.cluster head.xmax
      → DeleterSays names files head (if multi then (if inside then judged_by_multi (logs_of names files) (multi_of names files head) else plain (broken H10))
      else remover_judged (logs_of names files) (is_xmax_committed head) head.xmax).life
  unfolding DeleterSays
  changer_by true true e r =
      multi_truth (multi_of names files head) refl (sym e) (sym r) (cond-true (is_multi head) (updater_or_none (multi_of names files head)) head.xmax (sym e))
  changer_by true false e r = (inserted, has, sym e, sym r)
  changer_by false inside e r =
      remover_truth head.xmax (is_xmax_committed head) (cond-false (is_multi head) (updater_or_none (multi_of names files head)) head.xmax (sym e))
      (λ h. (h, sym e)) (λ h both. absurd (let f = both.0 in cc))

module _ (names : Names) (files : LogFiles) (head : HeapHead) (inserted : IsInserted names files head) where
  deleter_by : (invalid locked : Bool) → invalid ≡ is_xmax_invalid head → locked ≡ is_locked_only head
      → DeleterSays names files head (if invalid then plain Live else if locked then plain Live
      else if is_multi head then
      (if is_multi_in_range files.cluster head.xmax then judged_by_multi (logs_of names files) (multi_of names files head) else plain (broken H10))
      else remover_judged (logs_of names files) (is_xmax_committed head) head.xmax).life
  unfolding DeleterSays
  deleter_by true locked e f = λ deleted. absurd (let a = deleted.0.0 in cc)
  deleter_by false true e f = λ deleted. absurd (let a = deleted.0.1 in cc)
  deleter_by false false e f =
      changer_by names files head inserted (sym e, sym f) (is_multi head) (is_multi_in_range files.cluster head.xmax) refl refl

  deleter_truth : DeleterSays names files head (deleter_judged (logs_of names files) head).life
  unfolding deleter_judged
  deleter_truth = deleter_by (is_xmax_invalid head) (is_locked_only head) refl refl

both_truths : (names : Names) (files : LogFiles) (head : HeapHead) (first : Option Life) (then_ : Judged) → InserterSays names files head first
    → (IsInserted names files head → DeleterSays names files head then_.life) → SaysTrue names files head (judged_after first then_).life
unfolding InserterSays DeleterSays
both_truths names files head (Some Live) then_ a b = absurd a
both_truths names files head (Some Dead) then_ a b = λ inserted. absurd (a inserted)
both_truths names files head (Some (Unjudged doubt)) then_ a b = a
both_truths names files head (Some (broken rule)) then_ a b = a
both_truths names files head None then_ a b = after then_.life (b a)
  where
    after : (life : Life) → DeleterSays names files head life → SaysTrue names files head life
    after Live d = (a, d)
    after Dead d = λ inserted. d
    after (Unjudged doubt) d = d
    after (broken rule) d = d

pub life_truth : (names : Names) (files : LogFiles) (head : HeapHead) → SaysTrue names files head (judged_of (logs_of names files) head).life
unfolding judged_of
life_truth names files head =
    both_truths names files head (inserter_life (logs_of names files) head) (deleter_judged (logs_of names files) head) (inserter_truth names files head)
    (λ inserted. deleter_truth names files head inserted)

pub judged_says_true : (names : Names) (files : LogFiles) (head : HeapHead) (judged : Judged) → judged ≡ judged_of (logs_of names files) head
    → SaysTrue names files head judged.life
judged_says_true names files head judged e =
    let P : Judged → Type 0 = λ j. SaysTrue names files head j.life in
    subst P (sym e) (life_truth names files head)
