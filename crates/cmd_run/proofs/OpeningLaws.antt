-- What comes of a table: its heap, its report, or the refusal of its files.
use Rattle.std.proofs.Common.{◌≡◌, ◌≢◌, ◌∙◌, refl, sym, ap}
use Rattle.std.specs.Prelude.{Err, None, Ok, Option, Some}
use Rattle.outside.specs.Outside.{Names}
use Rattle.rel_files.specs.Refusals.{TellsRefusal}
use Rattle.rel_files.specs.declared.check_fault.CheckFault.{CheckFault}
use Rattle.rel_files.specs.declared.check_fault.CheckFault.TheVariants.{NoFile, NoMemory, ReadFault, TooLarge}
use Rattle.case_file.specs.Record.{CaseRecord}
use Rattle.reports.specs.Lists.{Lists}
use Rattle.heap_table_check.specs.Found.{case_found}
use Rattle.heap_table_check.specs.declared.files.SoundHeap.{SoundHeap}
use Rattle.cmd_answers.specs.Cases.{files_refused, unless_refused}
use Rattle.cmd_answers.specs.Outcome.{Outcome, judged_or, owed_by, reported}
use Rattle.cmd_run.specs.Openings.{IsOpenedTable, IsTableAnswer}
use Rattle.cmd_run.specs.Tables.{IsHeapOf}
use Rattle.cmd_run.proofs.ReportLaws.{owed_there, quiet_there, refused_code, report_code, report_there, sound_there}

module _ (case : CaseRecord) (names : Names) (found : Option SoundHeap) (of : IsHeapOf case names found) where
  -- the heap of a table of which nothing is found,
  pub opened_table : (heap : SoundHeap) → found ≡ Some heap → IsOpenedTable case names (Ok (case_found case names)) heap
  opened_table heap is = record {
    owed = λ rows. sym (owed_there case names found of heap rows rows is refl);
    quiet = quiet_there case names found of heap is;
    sound = sound_there case names found of heap is;
  }

  -- or the report
  pub reported_table : (o : Outcome) (report : Lists) → found ≡ None → o ≡ reported report → report ≡ case_found case names → IsTableAnswer (Ok (case_found case names)) o
  reported_table o report is owed added = record {
    owed = λ rows. report_there case names found of o rows report is owed added;
    code = report_code case names found of o report is owed added;
  }

-- a fault that tells of a refusal is that refusal
refusal_is : (T : Type 0) (refusal : Option CheckFault) (fault : CheckFault) → TellsRefusal {T = T} refusal (Err fault) → fault ≢ ReadFault → fault ≢ NoMemory → refusal ≡ Some fault
refusal_is T refusal (NoFile which) tells read memory = tells
refusal_is T refusal (TooLarge which blocks limit) tells read memory = tells
refusal_is T refusal ReadFault tells read memory = absurd (read refl)
refusal_is T refusal NoMemory tells read memory = absurd (memory refl)

module _ (T : Type 0) (refusal : Option CheckFault) (fault : CheckFault) (tells : TellsRefusal {T = T} refusal (Err fault)) (read : fault ≢ ReadFault) (memory : fault ≢ NoMemory) where
  -- what is owed where files are refused
  pub refused_as : (case : CaseRecord) (lists : Lists) (o : Outcome) → o ≡ files_refused case fault → o ≡ owed_by (unless_refused refusal case lists)
  refused_as case lists o is = is ∙ ap (λ (r : Option CheckFault). owed_by (unless_refused r case lists)) (sym (refusal_is T refusal fault tells read memory))

  pub refused_table : (case : CaseRecord) (lists : Lists) (o : Outcome) → o ≡ files_refused case fault → IsTableAnswer (unless_refused refusal case lists) o
  refused_table case lists o is = record {
    owed = λ rows. is ∙ ap (λ (r : Option CheckFault). judged_or (unless_refused r case lists) rows) (sym (refusal_is T refusal fault tells read memory));
    code = λ e. refused_code case fault (sym (ap (λ (p : Outcome). p.code) is) ∙ e);
  }
