-- The table tells what breaks a rule or is in doubt.
use Rattle.std.proofs.Common.{◌≡◌, ◌≤◌, ℕ, ◌⊎◌, inl, inr, Bool, true, false, not, ◌==◌, ◌&&◌, Option, Some, None, refl, sym, subst, arith}
use Rattle.std.specs.Prelude.{if◌then◌else◌}
use Rattle.std.proofs.lemmas.Bool.{cond-true, cond-false, ne_eqb, le-leb, and_from, and_parts}
use Rattle.outside.specs.Outside.{Names}
use Rattle.page_layout.specs.declared.rules.Rule.{Rule}
use Rattle.page_layout.specs.declared.rules.Rule.TheVariants.{H9, H10, H11, H12, H13}
use Rattle.rel_files.specs.Ranges.{is_multi_in_range, is_xid_in_range}
use Rattle.tuple_head.specs.declared.HeapHead.{HeapHead}
use Rattle.tuple_head.specs.Head.{is_hinted_invalid, is_locked_only, is_multi, is_old_form, is_xmax_committed, is_xmax_invalid, is_xmin_committed, seen_xmin}
use Rattle.xact_status.specs.Status.{IsMissing, status_of}
use Rattle.xact_status.specs.declared.XidState.{XidState}
use Rattle.xact_status.specs.declared.XidState.TheVariants.{Committed, NotCommitted, Missing as StateMissing}
use Rattle.xact_status.proofs.Law.{status_says_true}
use Rattle.multi_members.specs.declared.state.MultiState.{MultiState}
use Rattle.multi_members.specs.declared.state.MultiState.TheVariants.{Updater, NoUpdater, Unfinished, TooLong, Missing}
use Rattle.liveness.specs.declared.states.Doubt.{Doubt}
use Rattle.liveness.specs.declared.states.Doubt.TheVariants.{U1, U2, U3}
use Rattle.liveness.specs.declared.states.Life.{Life}
use Rattle.liveness.specs.declared.states.Life.TheVariants.{Live, Dead, Unjudged, Broken as broken}
use Rattle.liveness.specs.declared.states.Judged.{Judged}
use Rattle.liveness.specs.LogFiles.{LogFiles, logs_of}
use Rattle.liveness.specs.Logs.{is_normal}
use Rattle.liveness.specs.Life.{BreaksRule, HangsOnMulti, HasRemover, IsHintedDeleted, IsInDoubt, IsInserted, IsOutOfRange, TellsRule, deleter_judged}
use Rattle.liveness.specs.Life.{inserter_life, judged_after, judged_by_multi, judged_by_status, judged_of, life_by_status, life_of, multi_of, plain}
use Rattle.liveness.specs.Life.{remover, remover_judged, updater_or_none}

not_of : (b : Bool) → b ≡ false → not b ≡ true
not_of true e = absurd cc
not_of false e = refl

from_3_on : (x : ℕ) → 3 ≤ x → ((x == 0) ≡ false) × (is_normal x ≡ true)
from_3_on x le = (ne_eqb x 0 (λ e. omega arith), le-leb 3 x le)

-- P is so of each broken rule: then what is asked earlier may break one
module _ (names : Names) (files : LogFiles) (head : HeapHead) (P : Life → Type 0) (of_rule : (rule : Rule) → P (broken rule)) where
  -- the inserter's part, where the inserter committed
  passes_by : (old none outside invalid asks : Bool) (state : XidState) (next : Judged) → old ≡ false → none ≡ false → invalid ≡ false
      → (asks ≡ true → state ≡ Committed) → P next.life
      → P (judged_after (if old then Some (Unjudged U1) else if none then Some Dead else if outside then Some (broken H9)
      else if invalid then Some Dead else if asks then life_by_status state else None) next).life
  passes_by true none outside invalid asks state next o e f g p = absurd cc
  passes_by false true outside invalid asks state next o e f g p = absurd cc
  passes_by false false true invalid asks state next o e f g p = of_rule H9
  passes_by false false false true asks state next o e f g p = absurd cc
  passes_by false false false false true Committed next o e f g p = p
  passes_by false false false false true NotCommitted next o e f g p = absurd (let s = g refl in cc)
  passes_by false false false false true StateMissing next o e f g p = absurd (let s = g refl in cc)
  passes_by false false false false false state next o e f g p = p

  committed_if_asked : IsInserted names files head → (is_normal (seen_xmin head) && not (is_xmin_committed head)) ≡ true
      → status_of names files.xact (seen_xmin head) ≡ Committed
  committed_if_asked inserted asks =
      let parts = and_parts (is_normal (seen_xmin head)) (not (is_xmin_committed head)) asks in
      elim inserted.2 [
        | inl hinted ↦ absurd (not_both (is_xmin_committed head) hinted parts.1)
        | inr committed ↦ (status_says_true names files.xact (seen_xmin head)).committed.1 committed
      ]
    where
      not_both : (b : Bool) → b ≡ true → not b ≡ true → ⊥
      not_both true e f = absurd cc
      not_both false e f = absurd cc

  passes : is_old_form head ≡ false → IsInserted names files head → P (deleter_judged (logs_of names files) head).life
      → P (life_of (logs_of names files) head)
  unfolding judged_of inserter_life
  passes new inserted p =
      passes_by (is_old_form head) (seen_xmin head == 0) (is_normal (seen_xmin head) && not (is_xid_in_range files.cluster (seen_xmin head)))
      (is_hinted_invalid head) (is_normal (seen_xmin head) && not (is_xmin_committed head)) (status_of names files.xact (seen_xmin head))
      (deleter_judged (logs_of names files) head) new (ne_eqb (seen_xmin head) 0 inserted.0) inserted.1 (committed_if_asked inserted) p

  -- an inserter that is out of range
  outside_by : (old none outside : Bool) (rest : Option Life) (next : Judged) → old ≡ false → none ≡ false → outside ≡ true
      → P (judged_after (if old then Some (Unjudged U1) else if none then Some Dead else if outside then Some (broken H9) else rest) next).life
  outside_by true none outside rest next o e r = absurd cc
  outside_by false true outside rest next o e r = absurd cc
  outside_by false false true rest next o e r = of_rule H9
  outside_by false false false rest next o e r = absurd cc

  outside : is_old_form head ≡ false → IsOutOfRange files (seen_xmin head) → P (life_of (logs_of names files) head)
  unfolding judged_of inserter_life
  outside new out =
      let at = from_3_on (seen_xmin head) out.0 in
      outside_by (is_old_form head) (seen_xmin head == 0) (is_normal (seen_xmin head) && not (is_xid_in_range files.cluster (seen_xmin head)))
      _ (deleter_judged (logs_of names files) head) new at.0 (and_from _ _ at.1 (not_of (is_xid_in_range files.cluster (seen_xmin head)) out.1))

  -- an inserter whose byte isn't held
  missing_by : (old none outside invalid asks : Bool) (state : XidState) (next : Judged) → old ≡ false → none ≡ false → invalid ≡ false
      → asks ≡ true → state ≡ StateMissing
      → P (judged_after (if old then Some (Unjudged U1) else if none then Some Dead else if outside then Some (broken H9)
      else if invalid then Some Dead else if asks then life_by_status state else None) next).life
  missing_by true none outside invalid asks state next o e f g s = absurd cc
  missing_by false true outside invalid asks state next o e f g s = absurd cc
  missing_by false false true invalid asks state next o e f g s = of_rule H9
  missing_by false false false true asks state next o e f g s = absurd cc
  missing_by false false false false true Committed next o e f g s = absurd cc
  missing_by false false false false true NotCommitted next o e f g s = absurd cc
  missing_by false false false false true StateMissing next o e f g s = of_rule H12
  missing_by false false false false false state next o e f g s = absurd cc

  missing : is_old_form head ≡ false → is_hinted_invalid head ≡ false → is_xmin_committed head ≡ false
      → IsMissing names files.xact (seen_xmin head) → P (life_of (logs_of names files) head)
  unfolding judged_of inserter_life
  missing new valid bare gone =
      let at = from_3_on (seen_xmin head) gone.0 in
      missing_by (is_old_form head) (seen_xmin head == 0) (is_normal (seen_xmin head) && not (is_xid_in_range files.cluster (seen_xmin head)))
      (is_hinted_invalid head) (is_normal (seen_xmin head) && not (is_xmin_committed head)) (status_of names files.xact (seen_xmin head))
      (deleter_judged (logs_of names files) head) new at.0 valid (and_from _ _ at.1 (not_of (is_xmin_committed head) bare))
      ((status_says_true names files.xact (seen_xmin head)).missing.1 gone)

  -- the deleter's part, where there is a remover
  removes_by : (invalid locked : Bool) (rest : Judged) → invalid ≡ false → locked ≡ false → P rest.life
      → P (if invalid then plain Live else if locked then plain Live else rest).life
  removes_by true locked rest e f p = absurd cc
  removes_by false true rest e f p = absurd cc
  removes_by false false rest e f p = p

  -- a multixact that is in range only where P is so of what it says
  on_multi_by : (multi inside : Bool) (m : MultiState) (rest : Judged) → multi ≡ true
      → (inside ≡ true → P (judged_by_multi (logs_of names files) m).life)
      → P (if multi then (if inside then judged_by_multi (logs_of names files) m else plain (broken H10)) else rest).life
  on_multi_by true true m rest e p = p refl
  on_multi_by true false m rest e p = of_rule H10
  on_multi_by false inside m rest e p = absurd cc

  on_multi : is_old_form head ≡ false → IsInserted names files head → HasRemover head → is_multi head ≡ true
      → (is_multi_in_range files.cluster head.xmax ≡ true → P (judged_by_multi (logs_of names files) (multi_of names files head)).life)
      → P (life_of (logs_of names files) head)
  unfolding deleter_judged
  on_multi new inserted has multi p =
      passes new inserted
      (removes_by (is_xmax_invalid head) (is_locked_only head) _ has.0 has.1
      (on_multi_by (is_multi head) (is_multi_in_range files.cluster head.xmax) (multi_of names files head)
      (remover_judged (logs_of names files) (is_xmax_committed head) head.xmax) multi p))

  hangs : (state : MultiState) → P (judged_by_multi (logs_of names files) state).life → is_old_form head ≡ false → HangsOnMulti names files head state
      → P (life_of (logs_of names files) head)
  hangs state p new on =
      let Q : MultiState → Type 0 = λ m. P (judged_by_multi (logs_of names files) m).life in
      on_multi new on.0 on.1 on.2 (λ inside. subst Q (sym on.4) p)

  -- a remover from 3 on, of which P is so where a hint says that it committed only if one does
  RemoverSays : Type 0
  RemoverSays = (x : ℕ) (hinted : Bool) → remover names files head ≡ x → (hinted ≡ true → IsHintedDeleted head)
      → P (remover_judged (logs_of names files) hinted x).life

  in_multi : (m : MultiState) → remover names files head ≡ updater_or_none m → 3 ≤ remover names files head → RemoverSays
      → P (judged_by_multi (logs_of names files) m).life
  unfolding RemoverSays
  in_multi Missing same le says = of_rule H13
  in_multi Unfinished same le says = absurd (omega arith)
  in_multi TooLong same le says = absurd (omega arith)
  in_multi NoUpdater same le says = absurd (omega arith)
  in_multi (Updater x) same le says = says x false same (λ e. absurd cc)

  by_remover_if : (multi : Bool) → multi ≡ is_multi head → is_old_form head ≡ false → IsInserted names files head → HasRemover head
      → 3 ≤ remover names files head → RemoverSays → P (life_of (logs_of names files) head)
  unfolding RemoverSays deleter_judged
  by_remover_if true e new inserted has le says =
      on_multi new inserted has (sym e)
      (λ inside. in_multi (multi_of names files head) (cond-true (is_multi head) (updater_or_none (multi_of names files head)) head.xmax (sym e)) le says)
  by_remover_if false e new inserted has le says =
      passes new inserted
      (removes_by (is_xmax_invalid head) (is_locked_only head) _ has.0 has.1
      (alone (is_multi head) _ _ (sym e)
      (says head.xmax (is_xmax_committed head) (cond-false (is_multi head) (updater_or_none (multi_of names files head)) head.xmax (sym e))
      (λ h. (h, sym e)))))
    where
      alone : (multi : Bool) (first rest : Judged) → multi ≡ false → P rest.life → P (if multi then first else rest).life
      alone true first rest e p = absurd cc
      alone false first rest e p = p

  by_remover : is_old_form head ≡ false → IsInserted names files head → HasRemover head → 3 ≤ remover names files head → RemoverSays
      → P (life_of (logs_of names files) head)
  by_remover = by_remover_if (is_multi head) refl

  -- a remover that is out of range
  remover_outside_by : (x : ℕ) (none normal inside hinted : Bool) (rest : Judged) → none ≡ false → normal ≡ true → inside ≡ false
      → P (if none then plain Live else if not normal then record { life = Dead; update = x } else if not inside then plain (broken H11) else rest).life
  remover_outside_by x true normal inside hinted rest e f r = absurd cc
  remover_outside_by x false false inside hinted rest e f r = absurd cc
  remover_outside_by x false true true hinted rest e f r = absurd cc
  remover_outside_by x false true false hinted rest e f r = of_rule H11

  remover_outside : IsOutOfRange files (remover names files head) → RemoverSays
  unfolding RemoverSays remover_judged
  remover_outside out x hinted same hint =
      let Q : ℕ → Type 0 = IsOutOfRange files in
      let there = subst Q same out in
      let at = from_3_on x there.0 in
      remover_outside_by x (x == 0) (is_normal x) (is_xid_in_range files.cluster x) hinted _ at.0 at.1 there.1

  -- a remover whose byte isn't held
  remover_missing_by : (x : ℕ) (none normal inside hinted : Bool) (state : XidState) → none ≡ false → normal ≡ true
      → (hinted ≡ true → ⊥) → state ≡ StateMissing
      → P (if none then plain Live else if not normal then record { life = Dead; update = x } else if not inside then plain (broken H11)
      else if hinted then record { life = Dead; update = x } else judged_by_status state x).life
  remover_missing_by x true normal inside hinted state e f bare s = absurd cc
  remover_missing_by x false false inside hinted state e f bare s = absurd cc
  remover_missing_by x false true false hinted state e f bare s = of_rule H11
  remover_missing_by x false true true true state e f bare s = absurd (bare refl)
  remover_missing_by x false true true false Committed e f bare s = absurd cc
  remover_missing_by x false true true false NotCommitted e f bare s = absurd cc
  remover_missing_by x false true true false StateMissing e f bare s = of_rule H12

  remover_missing : (IsHintedDeleted head → ⊥) → IsMissing names files.xact (remover names files head) → RemoverSays
  unfolding RemoverSays remover_judged
  remover_missing bare gone x hinted same hint =
      let Q : ℕ → Type 0 = IsMissing names files.xact in
      let there = subst Q same gone in
      let at = from_3_on x there.0 in
      remover_missing_by x (x == 0) (is_normal x) (is_xid_in_range files.cluster x) hinted (status_of names files.xact x) at.0 at.1
      (λ h. bare (hint h)) ((status_says_true names files.xact x).missing.1 there)

module _ (names : Names) (files : LogFiles) (head : HeapHead) where
  -- a rule that is broken is told, or another one that is asked earlier
  pub rule_is_told : is_old_form head ≡ false → (rule : Rule) → BreaksRule names files head rule → TellsRule (life_of (logs_of names files) head)
  rule_is_told new H9 b = outside names files head TellsRule (λ rule. (rule, refl)) new b
  rule_is_told new H10 b =
      on_multi names files head TellsRule (λ rule. (rule, refl)) new b.0 b.1 b.2 (λ inside. absurd (let out = b.3 in cc))
  rule_is_told new H11 b =
      by_remover names files head TellsRule (λ rule. (rule, refl)) new b.0 b.1 b.2.0
      (remover_outside names files head TellsRule (λ rule. (rule, refl)) b.2)
  rule_is_told new H12 (inl b) = missing names files head TellsRule (λ rule. (rule, refl)) new b.0 b.1 b.2
  rule_is_told new H12 (inr b) =
      by_remover names files head TellsRule (λ rule. (rule, refl)) new b.0 b.1 b.3.0
      (remover_missing names files head TellsRule (λ rule. (rule, refl)) b.2 b.3)
  rule_is_told new H13 b = hangs names files head TellsRule (λ rule. (rule, refl)) Missing (H13, refl) new b
  rule_is_told new _ b = absurd b

  -- so is a doubt
  pub doubt_or_rule_is_told : is_old_form head ≡ false → (doubt : Doubt) → IsInDoubt names files head doubt
      → (life_of (logs_of names files) head ≡ Unjudged doubt) ⊎ TellsRule (life_of (logs_of names files) head)
  doubt_or_rule_is_told new U1 d = absurd (let old = d in cc)
  doubt_or_rule_is_told new U2 d =
      hangs names files head (λ life. (life ≡ Unjudged U2) ⊎ TellsRule life) (λ rule. inr (rule, refl)) Unfinished (inl refl) new d
  doubt_or_rule_is_told new U3 d =
      hangs names files head (λ life. (life ≡ Unjudged U3) ⊎ TellsRule life) (λ rule. inr (rule, refl)) TooLong (inl refl) new d

  -- an old form always is
  pub old_is_told : is_old_form head ≡ true → life_of (logs_of names files) head ≡ Unjudged U1
  unfolding judged_of inserter_life
  old_is_told old = by_form (is_old_form head) _ (deleter_judged (logs_of names files) head) old
    where
      by_form : (form : Bool) (rest : Option Life) (next : Judged) → form ≡ true
          → (judged_after (if form then Some (Unjudged U1) else rest) next).life ≡ Unjudged U1
      by_form true rest next e = refl
      by_form false rest next e = absurd cc

neither : (life : Life) (doubt : Doubt) → (life ≡ Unjudged doubt) ⊎ TellsRule life → (life ≡ Live → ⊥) × (life ≡ Dead → ⊥)
neither _ doubt (inl e) = (λ live. absurd cc, λ dead. absurd cc)
neither _ doubt (inr (rule, e)) = (λ live. absurd cc, λ dead. absurd cc)

pub broken_is_told : (names : Names) (files : LogFiles) (head : HeapHead) → is_old_form head ≡ false → (rule : Rule) → BreaksRule names files head rule
    → (life_of (logs_of names files) head ≡ Live → ⊥) × (life_of (logs_of names files) head ≡ Dead → ⊥)
broken_is_told names files head new rule b =
    neither (life_of (logs_of names files) head) U1 (inr (rule_is_told names files head new rule b))

pub doubt_is_told : (names : Names) (files : LogFiles) (head : HeapHead) → is_old_form head ≡ false → (doubt : Doubt) → IsInDoubt names files head doubt
    → (life_of (logs_of names files) head ≡ Live → ⊥) × (life_of (logs_of names files) head ≡ Dead → ⊥)
doubt_is_told names files head new doubt d =
    neither (life_of (logs_of names files) head) doubt (doubt_or_rule_is_told names files head new doubt d)
