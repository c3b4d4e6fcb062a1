-- What is in work for all indexes of a heap: one list, with an entry for each index.
use Rattle.std.specs.Prelude.{◌≡◌, ℕ, ◌++◌, Bool, List, All, Option, Some, map, true}
use Rattle.outside.specs.Outside.{Names}
use Rattle.bt_levels.specs.declared.sound.SoundTree.{SoundTree}
use Rattle.bt_levels.specs.Files.{number_of}
use Rattle.bt_levels.specs.Sound.{file_of, index_columns}
use Rattle.case_file.specs.Record.{CaseRecord}
use Rattle.reports.specs.Added.{joined}
use Rattle.reports.specs.Lists.{Lists}
use Rattle.heap_table_check.specs.declared.files.SoundHeap.{SoundHeap}
use Rattle.heap_rows.specs.declared.row_cursor.RowCursor.{RowCursor}
use Rattle.heap_rows.specs.declared.rows.LiveRow.{LiveRow}
use Rattle.heap_rows.specs.RowCursor.{asked_at}
use Rattle.join_distinct.specs.Apart.{AreApart}
use Rattle.join_leaf_pass.specs.Passes.{strays_of}
use Rattle.join_rules.specs.Lists.{indexed_lists, joined_lists}
use Rattle.join_row_keys.specs.declared.joined.IndexedTable.{IndexedTable}
use Rattle.join_row_keys.specs.declared.keys.KeyedHeap.{KeyedHeap}
use Rattle.join_row_keys.specs.Joined.{BelongTogether, HoldTogether}
use Rattle.join_row_keys.specs.Rows.{AreAskedFrom, IsIndexAt, columns_in}
use Rattle.join_look_ups.specs.Judging.{IsBehind}
use Rattle.join_look_ups.specs.Rows.{owed_for, rows_from}
use Rattle.heap_indexed.specs.declared.work.IndexWork.{IndexWork}
use Rattle.heap_indexed.specs.Meetings.{HasRoots, InWork, rows_kept}

-- The indexes

abbrev pub tree_of : IndexWork → SoundTree
tree_of work = work.index.at.tree.now

abbrev pub trees_of : List IndexWork → List SoundTree
trees_of works = map tree_of works

abbrev pub indexes_of : List IndexWork → List KeyedHeap
indexes_of works = map (λ work. work.index) works

-- an index of this case and this heap
pub record IsOf (case : CaseRecord) (heap : SoundHeap) (index : KeyedHeap) : Type 0 where
  pub case_is : index.at.case.now ≡ case
  pub heap_is : index.at.heap.now ≡ heap

-- they are those of a heap, in their order
pub record AreWorksOf (at : IndexedTable) (works : List IndexWork) : Type 0 where
  pub trees : trees_of works ≡ at.trees.now
  pub each : All (λ work. IsOf at.case.now at.heap.now work.index) works

-- a cursor is one of the heap of each, and asked for the columns of each
abbrev pub AreIndexesAt : RowCursor → List IndexWork → Type 0
AreIndexesAt cursor works = All (λ work. IsIndexAt work.index cursor) works

-- for each it says which of the values that a cursor is asked for is its first
abbrev pub AreAskedEach : RowCursor → List IndexWork → Type 0
AreAskedEach cursor works =
    All (λ work. AreAskedFrom work.index.first (columns_in (index_columns (tree_of work))) (asked_at cursor)) works

abbrev pub BelongEach : List IndexWork → Type 0
BelongEach works = All (λ work. BelongTogether work.index.at.case.now work.index.at.heap.now (tree_of work)) works

-- the names hold each index together with its heap
abbrev pub HoldEach : Names → List IndexWork → Type 0
HoldEach names works =
    All (λ work. HoldTogether names work.index.at.case.now work.index.at.heap.now (tree_of work)) works

-- What is in work for one of them

abbrev pub IsInWork : Names → (done strays : Lists) → List LiveRow → IndexWork → Type 0
IsInWork names done strays range work = InWork names done strays range (tree_of work) work.meeting

-- all of these rows are kept where those of the page in hand were kept at once, and else those that were passed
abbrev pub IsKeptIn : Names → (done strays : Lists) → (all passed : List LiveRow) → IndexWork → Type 0
IsKeptIn names done strays all passed work = IsInWork names done strays (rows_kept work.meeting all passed) work

-- all rows and all entries were judged, and no two entries have the same values, where it says so
pub record IsJudged (case : CaseRecord) (names : Names) (blocks : ℕ) (targets : List (List Bool)) (work : IndexWork)
    : Type 0 where
  pub lists : joined work.meeting.rows work.meeting.entries
      ≡ joined (owed_for names (tree_of work) (rows_from case names 0 blocks))
      (strays_of names (Some targets) (tree_of work))
  pub apart : work.meeting.apart ≡ true → AreApart names (tree_of work)

-- what was found of its rows and its entries is what the case says of them
pub record IsMet (names : Names) (work : IndexWork) : Type 0 where
  pub lists : joined work.meeting.rows work.meeting.entries
      ≡ joined_lists work.index.at.case.now names (number_of (file_of (tree_of work)))
  pub apart : work.meeting.apart ≡ true → AreApart names (tree_of work)

-- what is to be found of a heap together with the index
abbrev pub lists_of : Names → IndexWork → Lists
lists_of names work = indexed_lists work.index.at.case.now names (number_of (file_of (tree_of work)))

-- What is in work for all of them

abbrev pub AreInWork : Names → (done strays : SoundTree → Lists) → List LiveRow → List IndexWork → Type 0
AreInWork names done strays range works =
    All (λ work. IsInWork names (done (tree_of work)) (strays (tree_of work)) range work) works

abbrev pub AreKeptOf : Names → (done strays : SoundTree → Lists) → (all passed : List LiveRow) → List IndexWork → Type 0
AreKeptOf names done strays all passed works =
    All (λ work. IsKeptIn names (done (tree_of work)) (strays (tree_of work)) all passed work) works

-- of all rows those that are not left are kept, behind those that were before
pub record HaveKept (names : Names) (done strays : SoundTree → Lists) (all left : List LiveRow) (works : List IndexWork)
    : Type 0 where
  pub range : List LiveRow
  pub is : all ≡ range ++ left
  pub each : AreKeptOf names done strays all range works

-- the names hold all, a cursor is behind the rows of a block, these rows of the range are in work, and what entries may
-- name has their roots
pub record AreToFinish (names : Names) (targets : Option (List (List Bool))) (range : List LiveRow)
    (works : List IndexWork) (cursor : RowCursor) : Type 0 where
  pub hold : HoldEach names works
  pub behind : IsBehind names cursor
  pub done : SoundTree → Lists
  pub strays : SoundTree → Lists
  pub work : AreInWork names done strays range works
  pub roots : HasRoots targets range
