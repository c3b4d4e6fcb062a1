-- How often files are read for the rows of a heap, at most.
use Rattle.std.specs.Prelude.{ℕ, ◌+◌, ◌*◌, ◌≤◌, Bool, true, false, length, Option, Some, None}
use Rattle.outside.specs.Outside.{Seen}
use Rattle.rel_files.specs.Relation.{count_of}
use Rattle.rel_files.specs.declared.relation.Relation.{Relation}
use Rattle.toast_chunks.specs.Chunks.{all_below}
use Rattle.heap_table_check.specs.declared.files.SoundHeap.{SoundHeap}
use Rattle.heap_table_check.specs.Files.{heap_in, is_plain_in, toast_in}
use Rattle.heap_rows.specs.declared.row_cursor.RowCursor.{RowCursor}
use Rattle.heap_rows.specs.RowCursor.{asked_at, case_at, heap_at}
use Rattle.heap_rows.specs.RowValues.{count_asked}

-- files were read at most so often, whatever came of it
abbrev pub ReadAtMost : {S : Type 0} → ℕ → (S → Seen) → S → S → Type 0
ReadAtMost n seen old new = (seen new).reads ≤ (seen old).reads + n

-- Blocks

-- of the logs for the states of a page's items: never where the page is plain, and else at most 327690 times for each
-- of 2042 items
abbrev pub state_reads : Bool → ℕ
state_reads true = 0
state_reads false = 669142980

-- for a block of the heap that is taken in hand: its page once, and the logs
abbrev pub block_reads : SoundHeap → ℕ → ℕ
block_reads heap b = 1 + state_reads (is_plain_in heap b)

-- the same for whichever of its blocks: its page alone, where all are plain
unfoldable pub most_block_reads : SoundHeap → ℕ
most_block_reads heap = 1 + state_reads (all_below (is_plain_in heap) (count_of (heap_in heap)))

-- Values

-- for a value: once for each chunk of the longest that a TOAST table can have, and never where there is no TOAST table
abbrev pub chunk_reads : Option Relation → ℕ
chunk_reads None = 0
chunk_reads (Some toast) = 537947

-- for so many values of a row
abbrev pub row_reads : Option Relation → (columns : ℕ) → ℕ
row_reads toast columns = chunk_reads toast * columns

-- for the values of so many columns, until the next row of the page in hand is found, or the page's end
unfoldable pub next_reads : SoundHeap → (columns : ℕ) → ℕ
next_reads heap columns = row_reads (toast_in heap) columns * 2042

-- A cursor

-- for how many columns it is asked
abbrev pub columns_at : RowCursor → ℕ
columns_at cursor = count_asked (length (case_at cursor).columns) (asked_at cursor)

-- for the next row of the page in hand
abbrev pub value_reads : RowCursor → ℕ
value_reads cursor = next_reads (heap_at cursor) (columns_at cursor)

-- for a block with the values of all its rows, which are at most 2042
unfoldable pub page_reads : SoundHeap → (columns : ℕ) → ℕ
page_reads heap columns = most_block_reads heap + next_reads heap columns * 2042

-- for the next row, where so many blocks are taken in hand on the way to it
unfoldable pub way_reads : RowCursor → (blocks : ℕ) → ℕ
way_reads cursor blocks = value_reads cursor + (most_block_reads (heap_at cursor) + value_reads cursor) * blocks
