-- The command `all`: what it says of a case and of each of its indexes, and what is true where it finds nothing.
use Rattle.std.specs.Prelude.{◌≡◌, ℕ, zero, suc, List, length, Option, None, Ok}
use Rattle.std.specs.Option.{option_or}
use Rattle.outside.specs.Outside.{Names}
use Rattle.page_layout.specs.declared.rules.Rule.{Rule}
use Rattle.case_file.specs.Record.{CaseRecord}
use Rattle.reports.specs.Added.{each_upto, joined, report_lists}
use Rattle.reports.specs.Lists.{Lists}
use Rattle.rel_files.specs.declared.check_fault.CheckFault.{CheckFault}
use Rattle.reports.specs.declared.places.Place.{Place}
use Rattle.reports.specs.declared.places.Reason.{Reason}
use Rattle.heap_table_check.specs.Broken.{Breaks as BreaksTable, Doubts as DoubtsTable}
use Rattle.heap_table_check.specs.Files.{refusal_of as table_refusal}
use Rattle.heap_table_check.specs.Found.{case_found}
use Rattle.heap_table_check.specs.Truth.{IsTrueHeap}
use Rattle.bt_levels.specs.Broken.{IsTrueTree}
use Rattle.bt_levels.specs.Files.{refusal_of as tree_refusal}
use Rattle.bt_levels.specs.Index.{tree_of}
use Rattle.cmd_answers.specs.Cases.{case_in, of_read, unless_refused}
use Rattle.cmd_run.specs.Headline.{IsTrueIndex}
use Rattle.cmd_run.specs.Numbered.{BreaksNumbered, DoubtsNumbered, IsNumber, numbered_found}
use Rattle.cmd_answers.specs.Outcome.{Judged}

-- the first of those of 1, .., n, if there is one
unfoldable pub first_upto : {X : Type 0} → (ℕ → Option X) → ℕ → Option X
first_upto f zero = None
first_upto f (suc n) = option_or (first_upto f n) (f (suc n))

-- why the files of the first n indexes can't be judged
abbrev pub trees_refusal : CaseRecord → Names → ℕ → Option CheckFault
trees_refusal case names n = first_upto (tree_refusal case names) n

-- why the files can't be judged: the heap's cause, or else the TOAST table's, or else that of the first index that has
-- one
abbrev pub all_refusal : CaseRecord → Names → Option CheckFault
all_refusal case names = option_or (table_refusal case names) (trees_refusal case names (length case.indexes))

-- what is found of the table, and then of each index, in the order of the case
abbrev pub all_found : CaseRecord → Names → Lists
all_found case names =
    joined (case_found case names) (each_upto report_lists (numbered_found case names) (length case.indexes))

-- the report on a case, unless its files are refused
abbrev pub whole_judged : Names → CaseRecord → Judged
whole_judged names case = unless_refused (all_refusal case names) case (all_found case names)

-- the report on the case in a file
abbrev pub all_judged : (file : List ℕ) → Names → Judged
all_judged file names = of_read (whole_judged names) (case_in file names)

-- a rule is broken, or a place is in doubt, in the files of a case's table, in that of one of its indexes, or between
-- the two
pub data BreaksCase (case : CaseRecord) (names : Names) (rule : Rule) (place : Place) : Type 0 where
  in_table : BreaksTable case names rule place → BreaksCase case names rule place
  in_index : (n : ℕ) → IsNumber case n → BreaksNumbered case names n rule place → BreaksCase case names rule place

pub data DoubtsCase (case : CaseRecord) (names : Names) (reason : Reason) (place : Place) : Type 0 where
  in_table : DoubtsTable case names reason place → DoubtsCase case names reason place
  in_index : (n : ℕ) → IsNumber case n → DoubtsNumbered case names n reason place → DoubtsCase case names reason place

-- what is said of a clean heap is true of the case's heap, and each of its indexes breaks no rule on its pages or on
-- its levels, and is true to the table, as specs/Headline says
pub record IsTrueCase (case : CaseRecord) (names : Names) : Type 0 where
  pub heap : IsTrueHeap case names
  pub trees : (n : ℕ) → IsNumber case n → IsTrueTree (tree_of case names n)
  pub indexes : (n : ℕ) → IsNumber case n → IsTrueIndex case names n

-- the file means a case, of which this is said
pub record BreaksAll (file : List ℕ) (names : Names) (rule : Rule) (place : Place) : Type 0 where
  pub case : CaseRecord
  pub meant : case_in file names ≡ Ok case
  pub breaks : BreaksCase case names rule place

pub record DoubtsAll (file : List ℕ) (names : Names) (reason : Reason) (place : Place) : Type 0 where
  pub case : CaseRecord
  pub meant : case_in file names ≡ Ok case
  pub doubts : DoubtsCase case names reason place

pub record HasTrueIndexes (file : List ℕ) (names : Names) : Type 0 where
  pub case : CaseRecord
  pub meant : case_in file names ≡ Ok case
  pub is_true : IsTrueCase case names
