-- What a run of `copy` is worth.
use Rattle.std.proofs.Common.{◌≡◌, ◌∙◌, ◌⊎◌, ◌==◌, Bool, true, false, List, ℕ, refl, ap, subst, arith}
use Rattle.std.specs.Prelude.{if◌then◌else◌, Option, Some, Ok}
use Rattle.std.proofs.lemmas.Bool.{both_ways, eq-eqb, eqb-true}
use Rattle.outside.specs.Outside.{Names}
use Rattle.case_file.specs.Record.{CaseRecord}
use Rattle.reports.specs.Lists.{Lists}
use Rattle.bt_levels.specs.Lists.{is_quiet}
use Rattle.copy_out.specs.Live.{unread_values}
use Rattle.cmd_answers.specs.Answers.{answer_code}
use Rattle.cmd_answers.specs.declared.status.Answer.TheVariants.{Clean, Unread}
use Rattle.cmd_answers.specs.Cases.{case_in}
use Rattle.cmd_run.specs.Commands.{outcome_of}
use Rattle.cmd_run.specs.Copied.{IsCopy}
use Rattle.cmd_run.specs.Copy.{copy_outcome, read_copied, rows_shown}
use Rattle.cmd_run.specs.Heap.{heap_judged}
use Rattle.cmd_run.specs.Laws.{AreLaws}
use Rattle.cmd_answers.specs.Outcome.{Judged, Meets, Outcome, judged_or, report_or}
use Rattle.cmd_line.specs.Words.{Copy, Form, Heap}
use Rattle.cmd_run.proofs.ReportLaws.{gave_up, judged_is, kept_quiet, nought_or, owed_code, quiet_code, quiet_kept, quiet_owes, quiet_true, rows_live}
use Rattle.cmd_run.proofs.Worth.{complete_report, sound_report}

none_unread : (n : ℕ) (b : Bool) → (n == 0) ≡ b → answer_code (if b then Clean else Unread) ≡ 0 → n ≡ 0
none_unread n true is e = eqb-true n 0 is
none_unread n false is e = absurd (omega (arith, e))

all_read : (case : CaseRecord) (names : Names) → (rows_shown names case).code ≡ 0 → unread_values case names ≡ 0
unfolding rows_shown
all_read case names e = none_unread (unread_values case names) (unread_values case names == 0) refl e

-- and where all are read this is the code
read_by : (n : ℕ) (b : Bool) → (n == 0) ≡ b → n ≡ 0 → answer_code (if b then Clean else Unread) ≡ 0
read_by n true is none = refl
read_by n false is none = absurd (both_ways (n == 0) is (eq-eqb n 0 none))

read_code : (case : CaseRecord) (names : Names) → unread_values case names ≡ 0 → (rows_shown names case).code ≡ 0
unfolding rows_shown
read_code case names none = read_by (unread_values case names) (unread_values case names == 0) refl none

-- rows are owed with 0 where nothing is found and each of their values is read
code_read : (case : CaseRecord) (names : Names) (lists : Lists) (old new : Option (List ℕ)) (code : ℕ) → Meets (report_or lists (rows_shown names case)) old new code
    → code ≡ 0 → (is_quiet lists ≡ true) × (unread_values case names ≡ 0)
code_read case names lists old new code meets nought =
    let both = quiet_code lists (rows_shown names case) (owed_code (report_or lists (rows_shown names case)) old new code meets nought) in
    (both.0, all_read case names both.1)

module _ (laws : AreLaws) (file : List ℕ) (case : CaseRecord) (names : Names) (lists : Lists) (meant : case_in file names ≡ Ok case) (e : heap_judged file names ≡ Ok lists) where
  -- what it owes
  owed : copy_outcome file names ≡ report_or lists (rows_shown names case)
  owed = ap (read_copied names) meant ∙ ap (λ (j : Judged). judged_or j (rows_shown names case)) (judged_is file case names lists meant e)

  read : (old new : Option (List ℕ)) (code : ℕ) → Meets (report_or lists (rows_shown names case)) old new code → code ≡ 0 → (is_quiet lists ≡ true) × (unread_values case names ≡ 0)
  read old new code meets nought = code_read case names lists old new code meets nought

  copy_by : (old new : Option (List ℕ)) (code : ℕ) → Meets (report_or lists (rows_shown names case)) old new code → IsCopy file case names lists old new code
  copy_by old new code meets = record {
    written = meets;
    sound = sound_report laws (Heap file) names lists e;
    complete = complete_report laws (Heap file) names lists e;
    rows = rows_live file case names lists meant e laws;
    read = read old new code meets;
    clean = λ nothing sure all.
        nought_or (report_or lists (rows_shown names case)) old new code meets
        (quiet_owes lists (rows_shown names case) (kept_quiet (Heap file) names lists (sound_report laws (Heap file) names lists e) nothing sure) (read_code case names all));
    whole = λ nought. quiet_kept laws (Heap file) names lists e (read old new code meets nought).0;
    truth = λ nought. quiet_true laws file names lists e (read old new code meets nought).0;
  }

  -- a run that was to write
  pub copy_worth : (form : Form) (o : Outcome) → Some form ≡ Some (Copy file) → o ≡ outcome_of form names → (old new : Option (List ℕ)) (code : ℕ)
      → Meets o old new code → IsCopy file case names lists old new code
  copy_worth form o asked is old new code meets =
      let form_is : form ≡ Copy file = cc in
      copy_by old new code (subst (λ (p : Outcome). Meets p old new code) (is ∙ ap (λ (f : Form). outcome_of f names) form_is ∙ owed) meets)

  -- and one that gave up before it wrote
  pub given_up_copy : (old new : Option (List ℕ)) (code : ℕ) → (code ≡ 7) ⊎ (code ≡ 9) → IsCopy file case names lists old new code
  given_up_copy old new code gave = copy_by old new code (gave_up (report_or lists (rows_shown names case)) old new code gave)
