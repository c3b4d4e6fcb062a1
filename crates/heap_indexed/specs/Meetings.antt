-- What is in work for each index of a heap while the rows of its blocks are gone through, range by range.
use Rattle.std.specs.Prelude.{◌≡◌, ◌≢◌, ℕ, ◌-◌, ◌++◌, Bool, true, false, List, All, Contains, Option, None, Some}
use Rattle.std.specs.Prelude.{cond}
use Rattle.std.specs.List.{flat_map}
use Rattle.outside.specs.Outside.{Names}
use Rattle.key_orders.specs.declared.columns.Value.{Value}
use Rattle.key_orders.specs.declared.Tid.{Tid}
use Rattle.key_attrs.specs.Columns.{TreeColumns}
use Rattle.bt_levels.specs.declared.sound.SoundTree.{SoundTree}
use Rattle.bt_levels.specs.Sound.{HoldsTree, index_columns}
use Rattle.reports.specs.Lists.{Lists}
use Rattle.heap_table_check.specs.Files.{BelongTo, IsSoundHeapOf, files_of}
use Rattle.heap_table_check.specs.Found.{IsQuiet}
use Rattle.heap_rows.specs.declared.row_cursor.RowCursor.{RowCursor}
use Rattle.heap_rows.specs.declared.rows.LiveRow.{LiveRow}
use Rattle.join_distinct.specs.Apart.{AreApart}
use Rattle.heap_targets.specs.Targets.{is_in}
use Rattle.join_slots.specs.Slots.{Tables, keys_in, keys_with, met_in}
use Rattle.join_row_keys.specs.declared.joined.IndexedTable.{IndexedTable}
use Rattle.join_row_keys.specs.declared.keys.KeyedHeap.{KeyedHeap}
use Rattle.heap_indexed.specs.declared.meeting.Meeting.{Meeting}
use Rattle.join_row_keys.specs.Joined.{BelongTogether, HoldTogether}
use Rattle.join_look_ups.specs.Judging.{IsBehind, TellsOf}
use Rattle.join_look_ups.specs.Looking.{AreOf}
use Rattle.join_row_keys.specs.Rows.{columns_in}
use Rattle.join_look_ups.specs.Rows.{HasValues, rows_from}

-- The heap and its indexes

-- all are of this case, whatever its names hold
pub record BelongToIt (at : IndexedTable) : Type 0 where
  pub heap : BelongTo at.case.now (files_of at.heap.now)
  pub each : All (λ tree. BelongTogether at.case.now at.heap.now tree) at.trees.now

-- the names hold all, and nothing is found of any
pub record HoldIt (names : Names) (at : IndexedTable) : Type 0 where
  pub heap : IsSoundHeapOf at.case.now names at.heap.now
  pub quiet : IsQuiet at.case.now names
  pub each : All (λ tree. HoldTogether names at.case.now at.heap.now tree) at.trees.now

-- the columns of indexes, one index after another
abbrev pub columns_of_all : List SoundTree → List ℕ
columns_of_all trees = flat_map (λ tree. columns_in (index_columns tree)) trees

-- Rows that are kept

-- the row is kept under its root, with its values
pub record IsKeptRow (columns : TreeColumns) (slots : Tables) (row : LiveRow) : Type 0 where
  pub key : List Value
  pub more : List Value
  pub values : HasValues columns row key more
  pub there : keys_in slots row.root ≡ Some (key ++ more)

-- its values were put under a root, where none were
pub record IsPut (columns : TreeColumns) (old new : Tables) (root : Tid) (row : LiveRow) : Type 0 where
  pub key : List Value
  pub more : List Value
  pub values : HasValues columns row key more
  pub put : keys_in new ≡ keys_with (keys_in old) root (key ++ more)
  pub fresh : keys_in old root ≡ None

-- one of these rows is rooted there
pub record IsRootIn (rows : List LiveRow) (tid : Tid) : Type 0 where
  pub row : LiveRow
  pub among : Contains rows row
  pub root : row.root ≡ tid

-- the set has the roots of these rows, where there is a set
abbrev pub HasRoots : Option (List (List Bool)) → List LiveRow → Type 0
HasRoots None rows = Unit {0}
HasRoots (Some set) rows = (row : LiveRow) → Contains rows row → is_in set row.root ≡ true

-- where it says so, each row of the blocks from one up to another is
abbrev pub IsKept : Names → KeyedHeap → (first end : ℕ) → Meeting → Type 0
IsKept names index first end meeting = meeting.is_whole ≡ true
    → All (IsKeptRow (index_columns index.at.tree.now) meeting.slots)
    (rows_from index.at.case.now names first (end - first))

-- the names hold the index, what is kept of rows and of pages tells of it, and a cursor is behind the rows of a block
pub record IsReadyBehind (names : Names) (index : KeyedHeap) (meeting : Meeting) (cursor : RowCursor) : Type 0 where
  pub tree : HoldsTree names index.at.tree.now
  pub kept : TellsOf names index.at.tree.now meeting.slots
  pub pages : AreOf names index.at.tree.now meeting.look_ups
  pub behind : IsBehind names cursor

-- what was found so far of the rows and of the entries of an index is this, and no two entries have the same values,
-- where it says so; none of the rows of the range was met yet, each of them is kept, where it says so, and no others
-- are
pub record InWork (names : Names) (done strays : Lists) (range : List LiveRow) (tree : SoundTree) (meeting : Meeting)
    : Type 0 where
  pub pages : AreOf names tree meeting.look_ups
  pub done_is : meeting.rows ≡ done
  pub strays_are : meeting.entries ≡ strays
  pub apart : meeting.apart ≡ true → AreApart names tree
  pub unmet : (tid : Tid) → met_in meeting.slots tid ≡ false
  pub kept : meeting.is_whole ≡ true → All (IsKeptRow (index_columns tree) meeting.slots) range
  pub rooted : (tid : Tid) → keys_in meeting.slots tid ≢ None → IsRootIn range tid

-- the names hold the heap and the index, a cursor is behind the rows of a block, these rows of the range are in work,
-- and what entries may name has their roots
pub record IsToFinish (names : Names) (index : KeyedHeap) (targets : Option (List (List Bool))) (range : List LiveRow)
    (meeting : Meeting) (cursor : RowCursor) : Type 0 where
  pub hold : HoldTogether names index.at.case.now index.at.heap.now index.at.tree.now
  pub behind : IsBehind names cursor
  pub done : Lists
  pub strays : Lists
  pub work : InWork names done strays range index.at.tree.now meeting
  pub roots : HasRoots targets range

-- all of these rows are kept where those of the page in hand were kept at once, and else those that were passed
abbrev pub rows_kept : Meeting → (all passed : List LiveRow) → List LiveRow
rows_kept meeting all passed = cond meeting.has_page all passed
