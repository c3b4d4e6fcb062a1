-- The commands: what each finds, which rules are its own, and what its report is worth. Each has a file of its own for
-- what is said here by cases.
use Rattle.std.specs.Prelude.{◌≡◌, ◌≢◌, ℕ, ◌⊎◌, List, [], All, Option, Some, None, Ok}
use Rattle.outside.specs.Outside.{Names}
use Rattle.outside.specs.declared.files.Part.TheVariants.{Segment}
use Rattle.page_layout.specs.declared.rules.Rule.{Rule}
use Rattle.reports.specs.Added.{IsListed}
use Rattle.reports.specs.Lists.{Lists}
use Rattle.reports.specs.declared.places.Place.{Place}
use Rattle.reports.specs.declared.places.Reason.{Reason}
use Rattle.cmd_run.specs.All.{BreaksAll, DoubtsAll, HasTrueIndexes, all_judged}
use Rattle.cmd_answers.specs.Answers.{GaveUp}
use Rattle.cmd_run.specs.Copy.{copy_outcome}
use Rattle.cmd_run.specs.Generated.{BreaksGenerated, DoubtsGenerated, IsTrueGenerated, counts_of, generated_judged}
use Rattle.cmd_run.specs.Generated.{generated_owed}
use Rattle.cmd_run.specs.Heap.{BreaksHeap, DoubtsHeap, HasTrueHeap, heap_judged}
use Rattle.cmd_run.specs.Index.{BreaksIndex, DoubtsIndex, HasTrueIndex, index_judged}
use Rattle.cmd_run.specs.Numbered.{IsBehind}
use Rattle.cmd_answers.specs.Outcome.{Judged, Meets, Outcome, owed_under, reported_under, told, usage}
use Rattle.cmd_answers.specs.Pages.{BreaksFile, pages_judged}
use Rattle.cmd_run.specs.Reindex.{reindex_outcome}
use Rattle.cmd_run.specs.Scan.{scan_outcome}
use Rattle.cmd_answers.specs.Show.{show_outcome}
use Rattle.cmd_line.specs.Words.{All as Every, Check, Copy, Form, Generated, Heap, Index, Judge, Pages, Reindex}
use Rattle.cmd_line.specs.Words.{Scan, Show, Tell}
use Rattle.cmd_line.specs.Words.{form_of}

-- what a command that judges finds
abbrev pub judged_by : Check → Names → Judged
judged_by (Pages name) names = pages_judged name (names name (Segment 0))
judged_by (Heap name) names = heap_judged name names
judged_by (Index case name) names = index_judged case name names
judged_by (Every case) names = all_judged case names
judged_by (Generated seed rows) names = generated_judged seed rows

-- the lines that stand before its report
abbrev pub heading_of : Check → List ℕ
heading_of (Pages name) = []
heading_of (Heap name) = []
heading_of (Index case name) = []
heading_of (Every case) = []
heading_of (Generated seed rows) = counts_of seed rows

-- what a command owes
abbrev pub outcome_of : Form → Names → Outcome
outcome_of (Judge check) names = owed_under (heading_of check) (judged_by check names)
outcome_of (Copy case) names = copy_outcome case names
outcome_of (Reindex case name) names = reindex_outcome case name names
outcome_of (Show kind name block) names = show_outcome kind name block (names name (Segment 0))
outcome_of (Scan case name bounds direction) names = scan_outcome case name bounds direction names
outcome_of (Tell notice) names = told notice

abbrev pub outcome_by : Option Form → Names → Outcome
outcome_by None names = usage
outcome_by (Some form) names = outcome_of form names

-- what these words owe over files that hold this
abbrev pub outcome : List (List ℕ) → Names → Outcome
outcome words names = outcome_by (form_of words) names

-- a rule of the command is broken at a place
abbrev pub IsBroken : Check → Names → Rule → Place → Type 0
IsBroken (Pages name) names rule place = BreaksFile (names name (Segment 0)) rule place
IsBroken (Heap name) names rule place = BreaksHeap name names rule place
IsBroken (Index case name) names rule place = BreaksIndex case name names rule place
IsBroken (Every case) names rule place = BreaksAll case names rule place
IsBroken (Generated seed rows) names rule place = BreaksGenerated seed rows rule place

-- a place of the command's files can't be judged
abbrev pub IsInDoubt : Check → Names → Reason → Place → Type 0
IsInDoubt (Pages name) names reason place = ⊥
IsInDoubt (Heap name) names reason place = DoubtsHeap name names reason place
IsInDoubt (Index case name) names reason place = DoubtsIndex case name names reason place
IsInDoubt (Every case) names reason place = DoubtsAll case names reason place
IsInDoubt (Generated seed rows) names reason place = DoubtsGenerated seed rows reason place

-- what is true of the command's files where they are clean; of an index it is said in specs/Headline
abbrev pub IsTrue : Check → Names → Type 0
IsTrue (Pages name) names = Unit {0}
IsTrue (Heap name) names = HasTrueHeap name names
IsTrue (Index case name) names = HasTrueIndex case name names
IsTrue (Every case) names = HasTrueIndexes case names
IsTrue (Generated seed rows) names = IsTrueGenerated seed rows

abbrev pub BreaksNothing : Check → Names → Type 0
BreaksNothing check names = (rule : Rule) (place : Place) → IsBroken check names rule place → ⊥

abbrev pub DoubtsNothing : Check → Names → Type 0
DoubtsNothing check names = (reason : Reason) (place : Place) → IsInDoubt check names reason place → ⊥

-- each finding of a report is a rule that is broken at its place, and each place that it calls unjudged is in doubt
pub record IsSound (check : Check) (names : Names) (lists : Lists) : Type 0 where
  pub findings : All (λ f. IsBroken check names f.rule f.place) lists.findings
  pub unjudged : All (λ u. IsInDoubt check names u.reason u.place) lists.unjudged

-- each place where a rule is broken, or of which something is in doubt, stands in the report; of the rules on levels of
-- an index, the first that is broken. A place has one finding at most, the first of its rules in the order of asking,
-- so where several are broken at one place the report names it, and one of them
pub record IsComplete (check : Check) (names : Names) (lists : Lists) : Type 0 where
  pub broken : (rule : Rule) (place : Place) → IsBroken check names rule place
      → IsListed lists place ⊎ IsBehind lists rule place
  pub in_doubt : (reason : Reason) (place : Place) → IsInDoubt check names reason place → IsListed lists place

-- what a report is worth, and the answer of the run that made it. Where there is no report, since something refuses the
-- command, the answer isn't 0: that is the clause `told` of `run`, by the code of the refusal in `outcome`
pub record IsWorth (check : Check) (names : Names) (lists : Lists) (old new : Option (List ℕ)) (code : ℕ) : Type 0 where
  -- it is what is written and answered, but for faults and want of memory
  pub written : Meets (reported_under (heading_of check) lists) old new code
  -- it finds only what is broken or in doubt
  pub sound : IsSound check names lists
  -- and names each place where something is, or the first of the rules on levels
  pub complete : IsComplete check names lists
  -- files that break no rule, and of which all can be judged, are clean, unless the run gave up
  pub clean : BreaksNothing check names → DoubtsNothing check names → (code ≡ 0) ⊎ GaveUp code
  -- files that are called clean break no rule, and all of them can be judged
  pub whole : code ≡ 0 → BreaksNothing check names × DoubtsNothing check names
  -- and what is said of such files is true
  pub truth : code ≡ 0 → IsTrue check names

-- where the words ask for a command that makes a report, and nothing refuses it, P holds of the two
abbrev pub ForReport : List (List ℕ) → Names → (Check → Lists → Type 0) → Type 0
ForReport words names P =
    (check : Check) (lists : Lists) → form_of words ≡ Some (Judge check) → judged_by check names ≡ Ok lists
    → P check lists

-- What holds of `gen`, which asks no files, whatever they hold and tell

-- where this is what the words ask for, P holds of the seed and the number of rows
abbrev pub ForGenerated : Option Form → ((seed rows : ℕ) → Type 0) → Type 0
ForGenerated form P = (seed rows : ℕ) → form ≡ Some (Judge (Generated seed rows)) → P seed rows

-- the words ask nothing of the files: they have no form, or are those of `gen`, `--help` or `--version`
abbrev pub AsksNoFiles : Option Form → Type 0
AsksNoFiles None = Unit {0}
AsksNoFiles (Some (Judge (Pages name))) = ⊥
AsksNoFiles (Some (Judge (Heap name))) = ⊥
AsksNoFiles (Some (Judge (Index case name))) = ⊥
AsksNoFiles (Some (Judge (Every case))) = ⊥
AsksNoFiles (Some (Judge (Generated seed rows))) = Unit {0}
AsksNoFiles (Some (Copy case)) = ⊥
AsksNoFiles (Some (Reindex case name)) = ⊥
AsksNoFiles (Some (Show kind name block)) = ⊥
AsksNoFiles (Some (Scan case name bounds direction)) = ⊥
AsksNoFiles (Some (Tell notice)) = Unit {0}

pub record IsGenerated (seed rows : ℕ) (names : Names) (old new : Option (List ℕ)) (code : ℕ) : Type 0 where
  -- the lines and the report, or the refusal, are written and answered, but for faults and want of memory
  pub written : Meets (generated_owed seed rows) old new code
  -- no file that it could fail to read is read
  pub read : code ≢ 7
  -- and where there are not too many rows, this is what the report is worth
  pub worth : (lists : Lists) → generated_judged seed rows ≡ Ok lists
      → IsWorth (Generated seed rows) names lists old new code
