-- The values of a live row in an index: those of its key, and those of the columns that the index includes.
use Rattle.std.specs.Prelude.{ℕ, List, [], ◌∷◌, map, slice_get, Option, Some, None}
use Rattle.key_orders.specs.declared.columns.KeySpec.{KeySpec}
use Rattle.key_orders.specs.declared.columns.Value.{Value}
use Rattle.key_attrs.specs.Columns.{TreeColumns}
use Rattle.case_file.specs.Record.{CaseRecord}
use Rattle.bt_levels.specs.Index.{case_columns, index_of}
use Rattle.heap_rows.specs.declared.row_cells.Cell.{Cell}
use Rattle.heap_rows.specs.declared.row_cells.Cell.TheVariants.{Held, Packed}
use Rattle.heap_rows.specs.declared.rows.LiveRow.{LiveRow}

-- a value before others, where all of them can be read
abbrev pub with_value : Option Cell → Option (List Value) → Option (List Value)
with_value (Some (Held v)) (Some vs) = Some (v ∷ vs)
with_value (Some (Held v)) None = None
with_value (Some Packed) vs = None
with_value None vs = None

-- the values of the columns with these numbers in a row with these cells, or None where one of them is compressed
abbrev pub values_at : List ℕ → List Cell → Option (List Value)
values_at [] cells = Some []
values_at (n ∷ ns) cells = with_value (slice_get cells n) (values_at ns cells)

-- the numbers of the columns of an index's key, and of those that it includes
abbrev pub key_numbers : TreeColumns → List ℕ
key_numbers columns = map (λ k. k.column) columns.specs

abbrev pub more_numbers : TreeColumns → List ℕ
more_numbers columns = map (λ m. m.column) columns.more

-- the columns of the key of index n of a case
abbrev pub keys_of : CaseRecord → ℕ → List KeySpec
keys_of case n = (index_of case n).keys

-- the key that a row has in it, and the values of the columns that it includes
abbrev pub key_of : CaseRecord → ℕ → LiveRow → Option (List Value)
key_of case n row = values_at (key_numbers (case_columns case n)) row.cells

abbrev pub more_of : CaseRecord → ℕ → LiveRow → Option (List Value)
more_of case n row = values_at (more_numbers (case_columns case n)) row.cells
