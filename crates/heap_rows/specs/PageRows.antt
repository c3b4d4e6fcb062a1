-- Rows of a page, one for each of its items, with the values of some of their columns.
use Rattle.std.specs.Prelude.{◌≡◌, ℕ, ◌+◌, List, [], ◌∷◌, length, slice_get, Option, None, Some}
use Rattle.key_orders.specs.declared.columns.ColType.{ColType}
use Rattle.key_orders.specs.declared.columns.Value.{Value}
use Rattle.key_orders.specs.declared.columns.Value.TheVariants as value
use Rattle.key_orders.specs.Values.{value_in}
use Rattle.varlena_attrs.specs.Forms.{Attribute, External, Missing, Null, Packed, Plain}
use Rattle.heap_rows.specs.declared.row_cells.Cell.TheVariants as cell
use Rattle.heap_rows.specs.declared.row_cursor.RowCursor.{RowCursor}
use Rattle.heap_rows.specs.declared.row_values.AskedColumns.{AskedColumns}
use Rattle.heap_rows.specs.declared.rows.LiveRow.{LiveRow}
use Rattle.heap_rows.specs.RowValues.{column_asked}

-- the block of the page in hand
abbrev pub block_in : RowCursor → ℕ
block_in cursor = cursor.page.block

-- the value of an attribute that stands in its tuple, not compressed
abbrev pub value_there : ColType → Attribute → Option Value
value_there ctype Null = Some value.Null
value_there ctype (Plain content) = Some (value_in ctype content)
value_there ctype Missing = None
value_there ctype (Packed piece) = None
value_there ctype (External pointer) = None

-- a tuple with columns of these types, and with these attributes, has this value in a column
pub record HasValue (types : List ColType) (list : List Attribute) (column : ℕ) (v : Value) : Type 0 where
  pub ctype : ColType
  pub typed : slice_get types column ≡ Some ctype
  pub attribute : Attribute
  pub there : slice_get list column ≡ Some attribute
  pub value_is : value_there ctype attribute ≡ Some v

-- it has these values in the columns that are asked for, from the one at a number on
abbrev pub HasValues : List ColType → AskedColumns → (first : ℕ) → List Attribute → List Value → Type 0
HasValues types asked first list values = (k : ℕ) (v : Value) → slice_get values k ≡ Some v
    → HasValue types list (column_asked asked (first + k)) v

-- the row is rooted at an item of a block, and these are its values in so many columns that are asked for, from the one
-- at a number on
pub record IsPageRow (block : ℕ) (asked : AskedColumns) (first count item : ℕ) (values : List Value) (row : LiveRow)
    : Type 0 where
  pub root : row.root ≡ record { block = block; item = item }
  pub many : length values ≡ count
  pub cells : (k : ℕ) (v : Value) → slice_get values k ≡ Some v
      → slice_get row.cells (column_asked asked (first + k)) ≡ Some (cell.Held v)

-- so it is of rows one after another, from one item on
abbrev pub ArePageRows : (block : ℕ) → AskedColumns → (first count item : ℕ) → List (List Value) → List LiveRow → Type 0
ArePageRows block asked first count item [] [] = Unit {0}
ArePageRows block asked first count item (vs ∷ values) (row ∷ rows) =
    IsPageRow block asked first count item vs row × ArePageRows block asked first count (item + 1) values rows
ArePageRows block asked first count item [] (row ∷ rows) = ⊥
ArePageRows block asked first count item (vs ∷ values) [] = ⊥
