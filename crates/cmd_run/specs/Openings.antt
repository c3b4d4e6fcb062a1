-- What comes of a case's table before its rows are read: a heap of which nothing is found, or what is answered at once.
use Rattle.std.specs.Prelude.{◌≡◌, ◌≢◌}
use Rattle.outside.specs.Outside.{Names}
use Rattle.case_file.specs.Record.{CaseRecord}
use Rattle.heap_table_check.specs.Files.{BelongTo, IsSoundHeapOf, files_of}
use Rattle.heap_table_check.specs.Found.{IsQuiet}
use Rattle.heap_table_check.specs.declared.files.SoundHeap.{SoundHeap}
use Rattle.cmd_answers.specs.Outcome.{Judged, Outcome, judged_or}
use Rattle.cmd_answers.specs.Seen.{outcome_seen}
use Rattle.cmd_run.specs.declared.table.TableOpening.{TableOpening}
use Rattle.cmd_run.specs.declared.table.TableOpening.TheVariants.{Answered, Opened}

-- nothing is found of the table, so that what is owed without a report is owed; this is its heap
pub record IsOpenedTable (case : CaseRecord) (names : Names) (judged : Judged) (heap : SoundHeap) : Type 0 where
  pub owed : (rows : Outcome) → judged_or judged rows ≡ rows
  pub quiet : IsQuiet case names
  pub sound : IsSoundHeapOf case names heap

-- the table's report or its refusal is owed, whose code isn't 0
pub record IsTableAnswer (judged : Judged) (answered : Outcome) : Type 0 where
  pub owed : (rows : Outcome) → answered ≡ judged_or judged rows
  pub code : answered.code ≢ 0

-- what comes of a table of which this is judged
abbrev pub IsTableOpening : CaseRecord → Names → Judged → TableOpening → Type 0
IsTableOpening case names judged (Opened heap) = IsOpenedTable case names judged heap
IsTableOpening case names judged (Answered output) = IsTableAnswer judged (outcome_seen output)

-- and whatever the files hold, the heap is the case's
abbrev pub BelongsIfOpened : CaseRecord → TableOpening → Type 0
BelongsIfOpened case (Opened heap) = BelongTo case (files_of heap)
BelongsIfOpened case (Answered output) = Unit {0}
