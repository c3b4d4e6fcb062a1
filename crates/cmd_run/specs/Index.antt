-- The command `index`: what it says of a case and of the index of a name, and what is true where it finds nothing.
use Rattle.std.specs.Prelude.{◌≡◌, ℕ, List, Option, Some, None, Ok, Err, codes}
use Rattle.std.specs.Option.{option_or}
use Rattle.outside.specs.Outside.{Names}
use Rattle.page_layout.specs.declared.rules.Rule.{Rule}
use Rattle.case_file.specs.Record.{CaseRecord, index_named}
use Rattle.case_rules.specs.declared.fault.CaseRule.TheVariants.{C5}
use Rattle.reports.specs.Added.{joined}
use Rattle.reports.specs.Lists.{Lists}
use Rattle.rel_files.specs.declared.check_fault.CheckFault.{CheckFault}
use Rattle.reports.specs.declared.places.Place.{Place}
use Rattle.reports.specs.declared.places.Reason.{Reason}
use Rattle.heap_table_check.specs.Broken.{Breaks as BreaksTable, Doubts as DoubtsTable}
use Rattle.heap_table_check.specs.Files.{refusal_of as table_refusal}
use Rattle.heap_table_check.specs.Found.{case_found}
use Rattle.bt_levels.specs.Broken.{IsTrueTree}
use Rattle.bt_levels.specs.Files.{refusal_of as tree_refusal}
use Rattle.bt_levels.specs.Index.{tree_of}
use Rattle.cmd_answers.specs.Cases.{case_in, of_read, unless_refused}
use Rattle.cmd_run.specs.Headline.{IsTrueIndex}
use Rattle.cmd_run.specs.Numbered.{BreaksNumbered, DoubtsNumbered, numbered_found}
use Rattle.cmd_answers.specs.Outcome.{Judged, Outcome, case_refused}

-- why the files can't be judged: the heap's cause, or else the TOAST table's, or else that of index n
abbrev pub index_refusal : CaseRecord → Names → ℕ → Option CheckFault
index_refusal case names n = option_or (table_refusal case names) (tree_refusal case names n)

-- what is found of the table, and then of index n
abbrev pub index_found : CaseRecord → Names → ℕ → Lists
index_found case names n = joined (case_found case names) (numbered_found case names n)

-- a name that no index of the case has
abbrev pub unknown_index : Outcome
unknown_index = case_refused C5 (codes "index.name")

-- the report on a case and on an index of it, if there is one, unless their files are refused
abbrev pub numbered_judged : Names → CaseRecord → Option ℕ → Judged
numbered_judged names case None = Err unknown_index
numbered_judged names case (Some n) = unless_refused (index_refusal case names n) case (index_found case names n)

-- the report on a case and on its index of a name
abbrev pub named_judged : List ℕ → Names → CaseRecord → Judged
named_judged name names case = numbered_judged names case (index_named case.indexes name)

-- the report on the case in a file and on its index of a name
abbrev pub index_judged : (file name : List ℕ) → Names → Judged
index_judged file name names = of_read (named_judged name names) (case_in file names)

-- the file means a case, which has an index of this name
pub record HasIndex (file name : List ℕ) (names : Names) : Type 0 where
  pub case : CaseRecord
  pub meant : case_in file names ≡ Ok case
  pub number : ℕ
  pub named : index_named case.indexes name ≡ Some number

-- a rule is broken, or a place is in doubt, in the files of the case's table, in that of the index, or between the two
pub data BreaksIndex (file name : List ℕ) (names : Names) (rule : Rule) (place : Place) : Type 0 where
  in_table : (has : HasIndex file name names) → BreaksTable has.case names rule place
      → BreaksIndex file name names rule place
  in_index : (has : HasIndex file name names) → BreaksNumbered has.case names has.number rule place
      → BreaksIndex file name names rule place

pub data DoubtsIndex (file name : List ℕ) (names : Names) (reason : Reason) (place : Place) : Type 0 where
  in_table : (has : HasIndex file name names) → DoubtsTable has.case names reason place
      → DoubtsIndex file name names reason place
  in_index : (has : HasIndex file name names) → DoubtsNumbered has.case names has.number reason place
      → DoubtsIndex file name names reason place

-- the index breaks no rule on its pages or on its levels, and it is true to the case's table, as specs/Headline says
pub record HasTrueIndex (file name : List ℕ) (names : Names) : Type 0 where
  pub has : HasIndex file name names
  pub tree : IsTrueTree (tree_of has.case names has.number)
  pub index : IsTrueIndex has.case names has.number
