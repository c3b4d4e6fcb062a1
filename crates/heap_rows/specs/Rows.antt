-- The live rows of a heap: each live tuple with the root of its chain and a cell for each column.
use Rattle.std.specs.Prelude.{ℕ, zero, suc, if◌then◌else◌, List, [], ◌∷◌, ◌++◌, length, slice_get}
use Rattle.std.specs.Prelude.{Option, Some, None}
use Rattle.outside.specs.Outside.{Names}
use Rattle.outside.specs.Adds.{each_below, one_list}
use Rattle.page_layout.specs.Page.{count_of, page_rule_of}
use Rattle.page_layout.specs.declared.page.PageKind.TheVariants.{Heap}
use Rattle.page_layout.specs.declared.rules.Rule.{Rule}
use Rattle.rel_files.specs.Blocks.{block_of}
use Rattle.key_orders.specs.Values.{value_in}
use Rattle.key_orders.specs.declared.columns.Value.TheVariants as value
use Rattle.case_file.specs.Record.{CaseRecord}
use Rattle.case_file.specs.declared.case.Column.{Column}
use Rattle.varlena_attrs.specs.Forms.{Attribute, Null, Missing, Plain, Packed, External}
use Rattle.varlena_attrs.specs.declared.places.ToastPointer.{ToastPointer}
use Rattle.hot_chains.specs.Chains.{is_live_tuple}
use Rattle.heap_rows.specs.Roots.{root_item}
use Rattle.toast_chunks.specs.Pointer.{is_compressed}
use Rattle.toast_chunks.specs.Value.{joined_bytes}
use Rattle.toast_chunks.specs.declared.map.Chunk.{Chunk}
use Rattle.reports.specs.Added.{each_upto}
use Rattle.heap_page_check.specs.declared.verdict.ItemVerdict.{ItemVerdict}
use Rattle.heap_page_check.specs.declared.verdict.ItemVerdict.TheVariants.{Passes, Breaks, InDoubt}
use Rattle.heap_page_check.specs.Found.{live_attributes, states_of}
use Rattle.heap_page_check.specs.Verdicts.{item_verdict}
use Rattle.heap_table_check.specs.Case.{heap_blocks, table_of}
use Rattle.heap_table_check.specs.Found.{chunks_of}
use Rattle.heap_rows.specs.declared.row_cells.Cell.{Cell}
use Rattle.heap_rows.specs.declared.row_cells.Cell.TheVariants as cell
use Rattle.heap_rows.specs.declared.rows.LiveRow.{LiveRow}

-- Values in a TOAST table

-- the bytes that a pointer stands for in the TOAST table of a case, where it has one
abbrev pub bytes_in_toast : Names → ℕ → List Chunk → Option (List ℕ × ℕ) → ToastPointer → List ℕ
bytes_in_toast names size chunks None p = []
bytes_in_toast names size chunks (Some t) p = joined_bytes names t.0 size chunks p

unfoldable pub toast_bytes : CaseRecord → Names → ToastPointer → List ℕ
toast_bytes case names p = bytes_in_toast names case.segment_blocks (chunks_of case names) case.toast p

-- Cells

-- the cell of a value in a TOAST table, of which these are the bytes
abbrev pub external_cell : List ℕ → ToastPointer → Cell
external_cell bytes p = if is_compressed p then cell.Packed else cell.Held (value.Bytes bytes)

-- the cell of a column in a tuple, where pointers stand for these bytes
abbrev pub cell_of : (ToastPointer → List ℕ) → Column → Attribute → Cell
cell_of bytes column Null = cell.Held value.Null
cell_of bytes column Missing = cell.Held column.missing
cell_of bytes column (Plain content) = cell.Held (value_in column.ctype content)
cell_of bytes column (Packed piece) = cell.Packed
cell_of bytes column (External p) = external_cell (bytes p) p

abbrev pub cell_by : (ToastPointer → List ℕ) → Option Column → Option Attribute → List Cell
cell_by bytes (Some column) (Some a) = cell_of bytes column a ∷ []
cell_by bytes (Some column) None = []
cell_by bytes None a = []

-- the cell of column k, counted from 0
unfoldable pub cell_at : (ToastPointer → List ℕ) → List Column → List Attribute → ℕ → List Cell
cell_at bytes columns list k = cell_by bytes (slice_get columns k) (slice_get list k)

-- the cells of all columns
unfoldable pub cells_of : (ToastPointer → List ℕ) → List Column → List Attribute → List Cell
cells_of bytes columns list = each_below one_list (cell_at bytes columns list) (length columns)

-- Rows

-- what the live tuple at item i of a page of a case's heap is as a row
unfoldable pub row_at : CaseRecord → Names → ℕ → List ℕ → ℕ → LiveRow
row_at case names block page i = record {
  tid = record { block = block; item = i };
  root = record { block = block; item = root_item block (states_of (table_of case names) page) i };
  cells = cells_of (toast_bytes case names) case.columns (live_attributes (table_of case names) page i);
}

-- this row where the verdict is that of a live tuple
abbrev pub row_by : ItemVerdict → LiveRow → List LiveRow
row_by (Passes state) row = if is_live_tuple state then row ∷ [] else []
row_by (Breaks rule) row = []
row_by (InDoubt reason) row = []

unfoldable pub item_rows : CaseRecord → Names → ℕ → List ℕ → ℕ → List LiveRow
item_rows case names block page i = row_by (item_verdict (table_of case names) page i) (row_at case names block page i)

-- these rows, where a page breaks no rule of its own
abbrev pub rows_by_rule : Option Rule → List LiveRow → List LiveRow
rows_by_rule (Some rule) rows = []
rows_by_rule None rows = rows

-- the rows of a page, unless it breaks a rule of its own
unfoldable pub page_rows : CaseRecord → Names → ℕ → List ℕ → List LiveRow
page_rows case names block page =
    rows_by_rule (page_rule_of Heap page) (each_upto one_list (item_rows case names block page) (count_of page))

-- a page of the heap
abbrev pub heap_page : CaseRecord → Names → ℕ → List ℕ
heap_page case names block = block_of names case.heap_file case.segment_blocks block

unfoldable pub block_rows : CaseRecord → Names → ℕ → List LiveRow
block_rows case names block = page_rows case names block (heap_page case names block)

-- all live rows of a case's heap, by rising TID
unfoldable pub rows_of : CaseRecord → Names → List LiveRow
rows_of case names = each_below one_list (block_rows case names) (heap_blocks case names)

-- What is left

-- what the n places from k on give, in their order
unfoldable pub each_from : {X : Type 0} → (ℕ → List X) → ℕ → ℕ → List X
each_from f k zero = []
each_from f k (suc n) = f k ++ each_from f (suc k) n
