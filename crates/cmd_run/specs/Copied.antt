-- What a run of `copy` is worth.
use Rattle.std.specs.Prelude.{◌≡◌, ℕ, ◌⊎◌, true, List, Option, Some, Ok}
use Rattle.outside.specs.Outside.{Names}
use Rattle.case_file.specs.Record.{CaseRecord}
use Rattle.reports.specs.Lists.{Lists}
use Rattle.bt_levels.specs.Lists.{is_quiet}
use Rattle.heap_rows.specs.RowLaws.{AreLiveTuples}
use Rattle.heap_rows.specs.Rows.{rows_of}
use Rattle.copy_out.specs.Live.{unread_values}
use Rattle.cmd_answers.specs.Answers.{GaveUp}
use Rattle.cmd_answers.specs.Cases.{case_in}
use Rattle.cmd_run.specs.Commands.{BreaksNothing, DoubtsNothing, IsComplete, IsSound}
use Rattle.cmd_run.specs.Copy.{rows_shown}
use Rattle.cmd_run.specs.Heap.{HasTrueHeap, heap_judged}
use Rattle.cmd_answers.specs.Outcome.{Meets, report_or}
use Rattle.cmd_line.specs.Words.{Copy, Heap, form_of}

-- what it is worth, where this is the case and what `heap` finds of it
pub record IsCopy
    (file : List ℕ) (case : CaseRecord) (names : Names) (lists : Lists) (old new : Option (List ℕ)) (code : ℕ)
    : Type 0 where
  -- the rows are written and answered, or the report where something is found or in doubt, but for faults and want of
  -- memory
  pub written : Meets (report_or lists (rows_shown names case)) old new code
  -- the report finds only what is broken or in doubt, and names each place where something is
  pub sound : IsSound (Heap file) names lists
  pub complete : IsComplete (Heap file) names lists
  -- the rows are exactly the live tuples of the heap, each once, by rising place, with the values of their attributes
  pub rows : is_quiet lists ≡ true → AreLiveTuples case names (rows_of case names)
  -- where 0 is answered these are written, and each of their values is read
  pub read : code ≡ 0 → (is_quiet lists ≡ true) × (unread_values case names ≡ 0)
  -- a table whose files break no rule, of which all can be judged, and of whose values each can be read gives 0, unless
  -- the run gave up
  pub clean : BreaksNothing (Heap file) names → DoubtsNothing (Heap file) names → unread_values case names ≡ 0
      → (code ≡ 0) ⊎ GaveUp code
  -- where 0 is answered the files break no rule, and all of them can be judged
  pub whole : code ≡ 0 → BreaksNothing (Heap file) names × DoubtsNothing (Heap file) names
  -- and what is said of a clean heap is true of the heap
  pub truth : code ≡ 0 → HasTrueHeap file names

-- where the words ask for `copy`, the file means a case, and nothing refuses its files, P holds of these
abbrev pub ForCopy : List (List ℕ) → Names → (List ℕ → CaseRecord → Lists → Type 0) → Type 0
ForCopy words names P =
    (file : List ℕ) (case : CaseRecord) (lists : Lists) → form_of words ≡ Some (Copy file)
    → case_in file names ≡ Ok case → heap_judged file names ≡ Ok lists → P file case lists
