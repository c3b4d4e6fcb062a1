-- Where the values of a row stand that were asked for, and what is asked of them, so that they can be found.
use Rattle.std.specs.Prelude.{◌≡◌, ℕ, ◌+◌, ◌<◌, ◌≤◌, true, List, [], ◌∷◌, length, map, take, drop, get_or, slice_get}
use Rattle.std.specs.Prelude.{Option, Some, None}
use Rattle.std.specs.Option.{option_copied}
use Rattle.outside.specs.Outside.{Names}
use Rattle.rel_files.specs.Relation.{IsAttached, base_of, size_of}
use Rattle.rel_files.specs.declared.relation.Relation.{Relation}
use Rattle.key_orders.specs.declared.columns.ColType.{ColType}
use Rattle.key_orders.specs.declared.columns.Value.TheVariants as value
use Rattle.key_orders.specs.Types.{HasLength, fixed_length}
use Rattle.key_orders.specs.Values.{value_in, value_shown}
use Rattle.case_file.specs.Record.{CaseRecord}
use Rattle.case_file.specs.declared.case.Column.{Column}
use Rattle.varlena_attrs.specs.Inline.{IsLayout}
use Rattle.varlena_attrs.specs.Forms.{Attribute, Null, Missing, Plain, Packed, External}
use Rattle.varlena_attrs.specs.declared.places.ToastPointer.{ToastPointer}
use Rattle.toast_chunks.specs.Chunks.{is_whole}
use Rattle.toast_chunks.specs.Stored.{AllStand}
use Rattle.toast_chunks.specs.Value.{joined_bytes}
use Rattle.toast_chunks.specs.declared.map.Chunk.{Chunk}
use Rattle.heap_rows.specs.declared.row_cells.Cell.{Cell}
use Rattle.heap_rows.specs.declared.row_cells.Cell.TheVariants as cell
use Rattle.heap_rows.specs.declared.row_cells.CellRef.{CellRef}
use Rattle.heap_rows.specs.declared.row_cells.CellRef.TheVariants as lent
use Rattle.heap_rows.specs.declared.row_values.AskedColumns.{AskedColumns}
use Rattle.heap_rows.specs.declared.row_values.AskedColumns.TheVariants as asked
use Rattle.heap_rows.specs.declared.row_values.RowTuple.{RowTuple}
use Rattle.heap_rows.specs.declared.row_values.ValuePlace.{ValuePlace}
use Rattle.heap_rows.specs.declared.row_values.ValuePlace.TheVariants as place
use Rattle.heap_rows.specs.declared.row_values.ValueSources.{ValueSources}
use Rattle.heap_rows.specs.Rows.{toast_bytes}

-- The TOAST table

-- the chunks stand in the TOAST table, where there is one
abbrev pub IsReadableValue : Names → Option Relation → List Chunk → Type 0
IsReadableValue names None chunks = Unit {0}
IsReadableValue names (Some r) chunks = IsAttached names r × AllStand names r chunks

-- the bytes that a pointer stands for there
abbrev pub bytes_seen : Names → Option Relation → List Chunk → ToastPointer → List ℕ
bytes_seen names None chunks p = []
bytes_seen names (Some r) chunks p = joined_bytes names (base_of r) (size_of r) chunks p

-- there is a TOAST table, and the pointer's value is whole in it
abbrev pub IsWholeIn : Option Relation → List Chunk → ToastPointer → Type 0
IsWholeIn None chunks p = ⊥
IsWholeIn (Some r) chunks p = is_whole chunks p ≡ true

-- an attribute whose value, if it stands in a TOAST table, is whole in this one
abbrev pub IsThere : Option Relation → List Chunk → Attribute → Type 0
IsThere toast chunks Null = Unit {0}
IsThere toast chunks Missing = Unit {0}
IsThere toast chunks (Plain content) = Unit {0}
IsThere toast chunks (Packed piece) = Unit {0}
IsThere toast chunks (External p) = IsWholeIn toast chunks p

-- Attributes and types

-- a stored value of fixed length has that length, and only varlenas are compressed or stand in a TOAST table
abbrev pub FitsType : ColType → Attribute → Type 0
FitsType ctype Null = Unit {0}
FitsType ctype Missing = Unit {0}
FitsType ctype (Plain content) = HasLength ctype (length content)
FitsType ctype (Packed piece) = fixed_length ctype ≡ None
FitsType ctype (External p) = fixed_length ctype ≡ None

-- there is one attribute for each column, and it fits its type
abbrev pub FitTypes : List ColType → List Attribute → Type 0
FitTypes [] [] = Unit {0}
FitTypes (c ∷ cs) (a ∷ list) = FitsType c a × FitTypes cs list
FitTypes [] (a ∷ list) = ⊥
FitTypes (c ∷ cs) [] = ⊥

-- A tuple on its page

-- its body
abbrev pub body_in : RowTuple → List ℕ
body_in tuple = take tuple.len (drop tuple.start tuple.page.now)

-- Places of values

-- the cell of a column whose value stands at a place: in these bytes of a page, or among bytes joined of chunks
abbrev pub cell_shown : List ℕ → List ℕ → Column → ValuePlace → Cell
cell_shown page joined column place.Null = cell.Held value.Null
cell_shown page joined column place.Missing = cell.Held column.missing
cell_shown page joined column (place.OnPage start len) = cell.Held (value_in column.ctype (take len (drop start page)))
cell_shown page joined column (place.Joined start len) = cell.Held (value.Bytes (take len (drop start joined)))
cell_shown page joined column place.Packed = cell.Packed

-- a column of this type may have a value there: so many bytes are on the page, and so many were joined
abbrev pub FitsPlace : ℕ → ColType → ValuePlace → Type 0
FitsPlace joined ctype place.Null = Unit {0}
FitsPlace joined ctype place.Missing = Unit {0}
FitsPlace joined ctype (place.OnPage start len) = (start + len ≤ 8192) × HasLength ctype len
FitsPlace joined ctype (place.Joined start len) = (start + len ≤ joined) × (fixed_length ctype ≡ None)
FitsPlace joined ctype place.Packed = fixed_length ctype ≡ None

-- The columns that are asked for

-- how many of so many columns are
abbrev pub count_asked : ℕ → AskedColumns → ℕ
count_asked n asked.All = n
count_asked n (asked.Only numbers) = length numbers.items

-- the number of the k-th of them, both counted from 0
abbrev pub column_asked : AskedColumns → ℕ → ℕ
column_asked asked.All k = k
column_asked (asked.Only numbers) k = get_or numbers.items k 0

-- each of them is one of so many columns
abbrev pub AsksColumns : ℕ → AskedColumns → Type 0
AsksColumns n asked = (k : ℕ) → k < count_asked n asked → column_asked asked k < n

-- this is the start that is known of the k-th of them
pub record IsStart (starts : List (Option ℕ)) (k start : ℕ) : Type 0 where
  pub inside : k < length starts
  pub is : get_or starts k None ≡ Some start

-- a start that is known is that of all tuples which store the column and those before it without nulls
abbrev pub AreStarts : List ColType → AskedColumns → List (Option ℕ) → Type 0
AreStarts types asked starts = (k start : ℕ) → IsStart starts k start → IsLayout types (column_asked asked k) start

-- the values are those of a case: its columns, those of them that are asked for, where these begin, and the bytes in
-- its TOAST table
pub record AreValuesOf (case : CaseRecord) (names : Names) (from : ValueSources) : Type 0 where
  pub columns : from.columns.now ≡ case.columns
  pub bytes : (p : ToastPointer)
      → bytes_seen names (option_copied from.toast) from.chunks.now p ≡ toast_bytes case names p
  pub asked : AsksColumns (length case.columns) from.asked.now
  pub starts : AreStarts (map (λ c. c.ctype) case.columns) from.asked.now from.starts.now

abbrev pub shown_by : List ℕ → List ℕ → Option Column → ValuePlace → List Cell
shown_by page joined (Some column) at = cell_shown page joined column at ∷ []
shown_by page joined None at = []

-- the cell of the k-th of them, one or none, by the places of their values
unfoldable pub asked_cell : List ℕ → List ℕ → List Column → AskedColumns → List ValuePlace → ℕ → List Cell
asked_cell page joined columns asked places k =
    shown_by page joined (slice_get columns (column_asked asked k)) (get_or places k place.Null)

-- the cells of the first n of them are these
abbrev pub AreCellsAsked : List ℕ → List ℕ → List Column → AskedColumns → List ValuePlace → (ℕ → List Cell) → ℕ → Type 0
AreCellsAsked page joined columns asked places cells n =
    (k : ℕ) → k < n → asked_cell page joined columns asked places k ≡ cells (column_asked asked k)

abbrev pub FitsColumnAt : ℕ → Option Column → ValuePlace → Type 0
FitsColumnAt joined (Some column) at = FitsPlace joined column.ctype at
FitsColumnAt joined None at = ⊥

-- the first n of them have places that their columns may have
abbrev pub FitAsked : ℕ → List Column → AskedColumns → List ValuePlace → ℕ → Type 0
FitAsked joined columns asked places n =
    (k : ℕ) → k < n → FitsColumnAt joined (slice_get columns (column_asked asked k)) (get_or places k place.Null)

-- what is lent of a cell
abbrev pub cell_lent : CellRef → Cell
cell_lent (lent.Held v) = cell.Held (value_shown v)
cell_lent lent.Packed = cell.Packed
