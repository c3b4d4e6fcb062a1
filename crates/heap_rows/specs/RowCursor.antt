-- The cursor over the live rows of a heap: what it stands for, which rows are ahead of it, and which is the next.
use Rattle.std.specs.Prelude.{◌≡◌, ℕ, ◌-◌, ◌<◌, ◌≤◌, true, List, [], ◌∷◌, ◌++◌, length, map, Option, Some, None}
use Rattle.outside.specs.Outside.{Names}
use Rattle.page_layout.specs.Page.{count_of}
use Rattle.case_file.specs.Record.{CaseRecord}
use Rattle.heap_table_check.specs.declared.files.SoundHeap.{SoundHeap}
use Rattle.heap_table_check.specs.Case.{heap_blocks, log_files_in}
use Rattle.heap_table_check.specs.Found.{IsQuiet}
use Rattle.heap_table_check.specs.CaseLogs.{log_files_kept}
use Rattle.heap_table_check.specs.Files.{BelongTo, IsSoundHeapOf, chunks_in, files_of, toast_in}
use Rattle.heap_rows.specs.declared.row_cursor.RowCursor.{RowCursor}
use Rattle.heap_rows.specs.declared.row_cursor.RowPlace.{RowPlace}
use Rattle.heap_rows.specs.declared.row_values.AskedColumns.{AskedColumns}
use Rattle.heap_rows.specs.declared.row_values.AskedColumns.TheVariants as asked
use Rattle.heap_rows.specs.declared.rows.LiveRow.{LiveRow}
use Rattle.heap_rows.specs.RowPages.{HasPlaces, IsInHand, IsNext, rows_in_hand}
use Rattle.heap_rows.specs.RowValues.{AreStarts, AsksColumns}
use Rattle.heap_rows.specs.Rows.{block_rows, each_from, heap_page}

-- the case whose rows they are, its heap, and the columns that are asked for
abbrev pub case_at : RowCursor → CaseRecord
case_at cursor = cursor.case.now

abbrev pub heap_at : RowCursor → SoundHeap
heap_at cursor = cursor.heap.now

abbrev pub asked_at : RowCursor → AskedColumns
asked_at cursor = cursor.asked

-- these are the numbers of the columns that are asked for
abbrev pub AreAsked : List ℕ → AskedColumns → Type 0
AreAsked columns asked.All = ⊥
AreAsked columns (asked.Only numbers) = numbers.items ≡ columns

-- the cursor was made for a case and its heap, in which nothing is found in these files, and what it has in hand is
-- from them
pub record IsCursorOf (names : Names) (cursor : RowCursor) : Type 0 where
  pub heap : IsSoundHeapOf (case_at cursor) names (heap_at cursor)
  pub belong : BelongTo (case_at cursor) (files_of (heap_at cursor))
  pub quiet : IsQuiet (case_at cursor) names
  pub logs : log_files_kept cursor.logs ≡ log_files_in (case_at cursor)
  pub asked : AsksColumns (length (case_at cursor).columns) cursor.asked
  pub starts : AreStarts (map (λ c. c.ctype) (case_at cursor).columns) cursor.asked cursor.starts.items
  pub few : cursor.page.count ≤ 2042
  pub hand : IsInHand (case_at cursor) names (toast_in (heap_at cursor)) (chunks_in (heap_at cursor)) cursor.page
  pub next : cursor.page.found ≡ true → IsNext (case_at cursor) names cursor.asked cursor.page

-- the rows of the blocks that weren't read yet
unfoldable pub rows_unread : Names → RowCursor → List LiveRow
rows_unread names cursor =
    each_from (block_rows (case_at cursor) names) cursor.next (heap_blocks (case_at cursor) names - cursor.next)

-- the rows that are ahead
unfoldable pub rows_ahead : Names → RowCursor → List LiveRow
rows_ahead names cursor = rows_in_hand (case_at cursor) names cursor.page ++ rows_unread names cursor

-- those of them that are on the page in hand
abbrev pub rows_here : Names → RowCursor → List LiveRow
rows_here names cursor = rows_in_hand (case_at cursor) names cursor.page

-- the block that is read next
abbrev pub next_in : RowCursor → ℕ
next_in cursor = cursor.next

-- how many times a block of the heap was taken in hand
abbrev pub taken_in : RowCursor → ℕ
taken_in cursor = cursor.taken

-- how many line pointers the page of a block of the heap has
abbrev pub line_pointers_of : CaseRecord → Names → ℕ → ℕ
line_pointers_of case names block = count_of (heap_page case names block)

-- none of the rows of the page in hand is ahead
abbrev pub IsPageDone : Names → RowCursor → Type 0
IsPageDone names cursor = rows_in_hand (case_at cursor) names cursor.page ≡ []

-- the cursor has found a row, whose values can be lent
pub record IsAtRow (cursor : RowCursor) : Type 0 where
  pub places : HasPlaces (case_at cursor).columns cursor.asked cursor.page
  pub few : cursor.page.done < 2042

-- the place is that of the first of these rows; none exactly where there are none
abbrev pub IsPlaceOfFirst : Option RowPlace → List LiveRow → Type 0
IsPlaceOfFirst (Some place) (row ∷ rows) = (place.tid ≡ row.tid) × (place.root ≡ row.root)
IsPlaceOfFirst (Some place) [] = ⊥
IsPlaceOfFirst None rows = rows ≡ []

-- a cursor over the same heap that is asked for the same columns
pub record IsSameCursor (before after : RowCursor) : Type 0 where
  pub case : case_at after ≡ case_at before
  pub heap : heap_at after ≡ heap_at before
  pub asked : asked_at after ≡ asked_at before
