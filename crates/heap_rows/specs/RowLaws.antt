-- What the rows of a case are: the live tuples of its heap, each with its root and the values of its attributes.
use Rattle.std.specs.Prelude.{◌≡◌, ℕ, ◌<◌, true, false, List, [], ◌∷◌, map, All, AllPairs, Contains}
use Rattle.outside.specs.Outside.{Names}
use Rattle.key_orders.specs.Values.{value_in}
use Rattle.key_orders.specs.declared.Tid.{Tid}
use Rattle.key_orders.specs.declared.columns.Value.TheVariants as value
use Rattle.tuple_head.specs.Head.{natts_of, tuple_head_of}
use Rattle.case_file.specs.Record.{CaseRecord}
use Rattle.case_file.specs.declared.case.Column.{Column}
use Rattle.varlena_attrs.specs.Attributes.{Attributes}
use Rattle.varlena_attrs.specs.Forms.{Attribute, Null, Missing, Plain, Packed, External}
use Rattle.varlena_attrs.specs.declared.places.ToastPointer.{ToastPointer}
use Rattle.liveness.specs.declared.states.ItemState.{ItemState}
use Rattle.hot_chains.specs.Chains.{Reaches}
use Rattle.heap_tuples.specs.Places.{tuple_at}
use Rattle.heap_tuples.specs.Tuples.{body_of, nulls_of}
use Rattle.toast_chunks.specs.Chunks.{IsWhole}
use Rattle.toast_chunks.specs.Pointer.{is_compressed}
use Rattle.heap_page_check.specs.Broken.{HoldsLiveTuple}
use Rattle.heap_page_check.specs.Found.{states_of}
use Rattle.heap_table_check.specs.Case.{heap_blocks, table_of}
use Rattle.heap_table_check.specs.Found.{chunks_of}
use Rattle.heap_rows.specs.declared.row_cells.Cell.{Cell}
use Rattle.heap_rows.specs.declared.row_cells.Cell.TheVariants as cell
use Rattle.heap_rows.specs.declared.rows.LiveRow.{LiveRow}
use Rattle.heap_rows.specs.Rows.{heap_page, rows_of, toast_bytes}

-- Places

-- a live tuple of the heap stands at this place
pub record IsLiveAt (case : CaseRecord) (names : Names) (tid : Tid) : Type 0 where
  pub block : tid.block < heap_blocks case names
  pub live : HoldsLiveTuple (table_of case names) (heap_page case names tid.block) tid.item

-- a place before another: in a block before its, or a lower item of the same
pub data IsBefore (t u : Tid) : Type 0 where
  in_lower_block : t.block < u.block → IsBefore t u
  in_same_block : t.block ≡ u.block → t.item < u.item → IsBefore t u

-- each row stands before all that come after it, so that none comes twice
abbrev pub TidsRise : List LiveRow → Type 0
TidsRise rows = AllPairs (λ row later. IsBefore row.tid later.tid) rows

-- Whatever is found of the heap

-- the row is a live tuple of the heap, and its root is on the same page
pub record IsRowOfTuple (case : CaseRecord) (names : Names) (row : LiveRow) : Type 0 where
  pub live : IsLiveAt case names row.tid
  pub root : row.root.block ≡ row.tid.block

abbrev pub RowsAreLive : CaseRecord → Names → Type 0
RowsAreLive case names = All (IsRowOfTuple case names) (rows_of case names)

-- Where nothing is found of it and nothing is in doubt

-- the states of the items of a block of the heap
abbrev pub states_at : CaseRecord → Names → ℕ → List ItemState
states_at case names block = states_of (table_of case names) (heap_page case names block)

-- the row's root, on its tuple's page, reaches the tuple, and no other root does
pub record HasItsRoot (case : CaseRecord) (names : Names) (row : LiveRow) : Type 0 where
  pub block : row.root.block ≡ row.tid.block
  pub reaches : Reaches row.tid.block (states_at case names row.tid.block) row.root.item row.tid.item
  pub only : (q : ℕ) → Reaches row.tid.block (states_at case names row.tid.block) q row.tid.item → q ≡ row.root.item

-- what an attribute of a column is as a cell: its value, wherever it is stored, or that it is compressed
pub data IsCellOf (case : CaseRecord) (names : Names) (column : Column) : Attribute → Cell → Type 0 where
  of_null : IsCellOf case names column Null (cell.Held value.Null)
  of_missing : IsCellOf case names column Missing (cell.Held column.missing)
  in_place :
      (content : List ℕ) → IsCellOf case names column (Plain content) (cell.Held (value_in column.ctype content))
  packed_in_place : (piece : List ℕ) → IsCellOf case names column (Packed piece) cell.Packed
  in_toast_table :
      (p : ToastPointer) → IsWhole (chunks_of case names) p → is_compressed p ≡ false
      → IsCellOf case names column (External p) (cell.Held (value.Bytes (toast_bytes case names p)))
  packed_in_toast_table :
      (p : ToastPointer) → IsWhole (chunks_of case names) p → is_compressed p ≡ true
      → IsCellOf case names column (External p) cell.Packed

-- the same of each column
pub data AreCellsOf (case : CaseRecord) (names : Names) : List Column → List Attribute → List Cell → Type 0 where
  no_columns : AreCellsOf case names [] [] []
  one_more :
      (column : Column) (columns : List Column) (a : Attribute) (list : List Attribute) (c : Cell) (cells : List Cell)
      → IsCellOf case names column a c → AreCellsOf case names columns list cells
      → AreCellsOf case names (column ∷ columns) (a ∷ list) (c ∷ cells)

-- these are the attributes of a tuple of a table with these columns
abbrev pub AreAttributesOf : List Column → List ℕ → List Attribute → Type 0
AreAttributesOf columns tuple list =
    Attributes (map (λ c. c.ctype) columns) (body_of tuple) (nulls_of tuple) (natts_of (tuple_head_of tuple)) list

-- the row's cells are those of its tuple's attributes
pub record HasItsCells (case : CaseRecord) (names : Names) (row : LiveRow) : Type 0 where
  pub list : List Attribute
  pub attributes :
      AreAttributesOf case.columns (tuple_at (heap_page case names row.tid.block) row.tid.item) list
  pub cells : AreCellsOf case names case.columns list row.cells

-- the row is a live tuple of the heap, with the root that reaches it and the values of its attributes
pub record IsWholeRow (case : CaseRecord) (names : Names) (row : LiveRow) : Type 0 where
  pub live : IsLiveAt case names row.tid
  pub root : HasItsRoot case names row
  pub cells : HasItsCells case names row

-- one of the rows stands at this place
pub record HasRowAt (rows : List LiveRow) (tid : Tid) : Type 0 where
  pub row : LiveRow
  pub among : Contains rows row
  pub at : row.tid ≡ tid

-- the rows are exactly the live tuples of the heap, by rising place
pub record AreLiveTuples (case : CaseRecord) (names : Names) (rows : List LiveRow) : Type 0 where
  pub each : All (IsWholeRow case names) rows
  pub all : (tid : Tid) → IsLiveAt case names tid → HasRowAt rows tid
  pub rise : TidsRise rows
