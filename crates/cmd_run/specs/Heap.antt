-- The command `heap`: what it says of a case, and what is true where it finds nothing.
use Rattle.std.specs.Prelude.{◌≡◌, ℕ, List, Ok}
use Rattle.outside.specs.Outside.{Names}
use Rattle.page_layout.specs.declared.rules.Rule.{Rule}
use Rattle.case_file.specs.Record.{CaseRecord}
use Rattle.reports.specs.declared.places.Place.{Place}
use Rattle.reports.specs.declared.places.Reason.{Reason}
use Rattle.heap_table_check.specs.Broken.{Breaks, Doubts}
use Rattle.heap_table_check.specs.Files.{refusal_of}
use Rattle.heap_table_check.specs.Found.{case_found}
use Rattle.heap_table_check.specs.Truth.{IsTrueHeap}
use Rattle.cmd_answers.specs.Cases.{case_in, of_read, unless_refused}
use Rattle.cmd_answers.specs.Outcome.{Judged}

-- the report on a case, unless its files are refused
abbrev pub case_judged : Names → CaseRecord → Judged
case_judged names case = unless_refused (refusal_of case names) case (case_found case names)

-- the report on the case in a file
abbrev pub heap_judged : List ℕ → Names → Judged
heap_judged name names = of_read (case_judged names) (case_in name names)

-- a rule is broken, or a place is in doubt, in the files of the case in a file
pub record BreaksHeap (name : List ℕ) (names : Names) (rule : Rule) (place : Place) : Type 0 where
  pub case : CaseRecord
  pub meant : case_in name names ≡ Ok case
  pub broken : Breaks case names rule place

pub record DoubtsHeap (name : List ℕ) (names : Names) (reason : Reason) (place : Place) : Type 0 where
  pub case : CaseRecord
  pub meant : case_in name names ≡ Ok case
  pub doubted : Doubts case names reason place

-- the file means a case, and what is said of a clean heap is true of its heap
pub record HasTrueHeap (name : List ℕ) (names : Names) : Type 0 where
  pub case : CaseRecord
  pub meant : case_in name names ≡ Ok case
  pub heap : IsTrueHeap case names
