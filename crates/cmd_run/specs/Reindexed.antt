-- What a run of `reindex` is worth.
use Rattle.std.specs.Prelude.{◌≡◌, ◌≤◌, ℕ, ◌⊎◌, true, false, List, [], All, Contains, Option, Some, Ok}
use Rattle.outside.specs.Outside.{Names}
use Rattle.case_file.specs.Record.{CaseRecord, index_named}
use Rattle.reports.specs.Lists.{Lists}
use Rattle.reports.specs.declared.places.Place.{Place}
use Rattle.reports.specs.declared.places.Reason.{Reason}
use Rattle.bt_levels.specs.Lists.{is_quiet}
use Rattle.heap_rows.specs.RowLaws.{AreLiveTuples}
use Rattle.heap_rows.specs.Rows.{rows_of}
use Rattle.join_rules.specs.Broken.{Doubts}
use Rattle.bt_build.specs.Listed.{Listed}
use Rattle.bt_build.specs.Outcome.{index_bytes, is_too_large, tree_for}
use Rattle.join_row_entries.specs.Entries.{AreListed, doubts_of, rows_listed}
use Rattle.cmd_answers.specs.Answers.{GaveUp}
use Rattle.cmd_answers.specs.Cases.{case_in}
use Rattle.cmd_answers.specs.Outcome.{Meets, report_or}
use Rattle.cmd_line.specs.Words.{Heap, Reindex, form_of}
use Rattle.cmd_run.specs.Commands.{BreaksNothing, DoubtsNothing, IsComplete, IsSound}
use Rattle.cmd_run.specs.Heap.{HasTrueHeap, heap_judged}
use Rattle.cmd_run.specs.Reindex.{MayBeMade, index_shown}

-- an index is made: nothing is found of the table, each live row has its entry, and these entries may be indexed, so
-- that a file which holds the bytes breaks no rule of a tree and has exactly these entries (`laws_built_clean`)
pub record IsMade (case : CaseRecord) (names : Names) (n : ℕ) (lists : Lists) : Type 0 where
  pub quiet : is_quiet lists ≡ true
  pub listed : AreListed case n (rows_of case names) (rows_listed case names n)
  pub indexable : MayBeMade names case n
  pub few : (tree_for (rows_listed case names n)).blocks ≤ 65536
  pub bytes : (index_shown names case n).bytes ≡ index_bytes (rows_listed case names n)

-- What the report on the rows says: it finds nothing; each place that it calls unjudged is that of a live tuple of
-- which a value in the columns of index n is compressed (U6), and each such tuple is there.
pub record AreDoubts (case : CaseRecord) (names : Names) (n : ℕ) (lists : Lists) : Type 0 where
  pub none_found : lists.findings ≡ []
  pub sound : All (λ u. Doubts case names n u.reason u.place) lists.unjudged
  pub complete : (reason : Reason) (place : Place) → Doubts case names n reason place
      → Contains lists.unjudged (record { reason = reason; place = place })

-- no live tuple has a compressed value in the columns of index n
abbrev pub HasNonePacked : CaseRecord → Names → ℕ → Type 0
HasNonePacked case names n = (reason : Reason) (place : Place) → Doubts case names n reason place → ⊥

-- as an item of its own no entry has more than 2704 bytes
abbrev pub AreSmall : Listed → Type 0
AreSmall l = All (λ e. is_too_large l.specs l.more e ≡ false) l.entries

-- what it is worth, where this is the case and what `heap` finds of it, and n the number of the index
pub record IsReindex
    (file : List ℕ) (case : CaseRecord) (names : Names) (n : ℕ) (lists : Lists) (old new : Option (List ℕ)) (code : ℕ)
    : Type 0 where
  -- the index is written and answered, or why there is none, or the report where something is found or in doubt, but
  -- for faults and want of memory
  pub written : Meets (report_or lists (index_shown names case n)) old new code
  -- the report finds only what is broken or in doubt, and names each place where something is
  pub sound : IsSound (Heap file) names lists
  pub complete : IsComplete (Heap file) names lists
  -- the rows are exactly the live tuples of the heap, each once, by rising place, with the values of their attributes
  pub rows : is_quiet lists ≡ true → AreLiveTuples case names (rows_of case names)
  -- where 0 is answered an index is made
  pub made : code ≡ 0 → IsMade case names n lists
  -- the report on the rows names exactly those of which a value is compressed
  pub doubts : AreDoubts case names n (doubts_of case names n)
  -- a table whose files break no rule, and of which all can be judged, gives 0 where no value of a row is compressed,
  -- no key is too large, and the index has at most 65536 blocks, unless the run gave up
  pub clean : BreaksNothing (Heap file) names → DoubtsNothing (Heap file) names → HasNonePacked case names n
      → AreSmall (rows_listed case names n) → (tree_for (rows_listed case names n)).blocks ≤ 65536
      → (code ≡ 0) ⊎ GaveUp code
  -- where 0 is answered that is so of the table, of its rows and of their keys
  pub whole : code ≡ 0 → BreaksNothing (Heap file) names × DoubtsNothing (Heap file) names
      × HasNonePacked case names n × AreSmall (rows_listed case names n)
  -- and what is said of a clean heap is true of the heap
  pub truth : code ≡ 0 → HasTrueHeap file names

-- where the words ask for `reindex`, the file means a case that has such an index, and nothing refuses its files, P
-- holds of these
abbrev pub ForReindex : List (List ℕ) → Names → (List ℕ → CaseRecord → ℕ → Lists → Type 0) → Type 0
ForReindex words names P =
    (file name : List ℕ) (case : CaseRecord) (n : ℕ) (lists : Lists) → form_of words ≡ Some (Reindex file name)
    → case_in file names ≡ Ok case → index_named case.indexes name ≡ Some n → heap_judged file names ≡ Ok lists
    → P file case n lists
