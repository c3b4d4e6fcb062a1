-- Which cells a row may have.
use Rattle.std.specs.Prelude.{◌≡◌, true, List, [], ◌∷◌, None}
use Rattle.key_orders.specs.Orders.{fits_type}
use Rattle.key_orders.specs.Types.{fixed_length}
use Rattle.case_file.specs.declared.case.Column.{Column}
use Rattle.heap_rows.specs.declared.row_cells.Cell.{Cell}
use Rattle.heap_rows.specs.declared.row_cells.Cell.TheVariants.{Held, Packed}

-- a cell holds a value that its column may have; only a varlena's is compressed
abbrev pub FitsColumn : Column → Cell → Type 0
FitsColumn column (Held v) = fits_type column.ctype v ≡ true
FitsColumn column Packed = fixed_length column.ctype ≡ None

-- there is one cell for each column, and it fits it
abbrev pub FitColumns : List Column → List Cell → Type 0
FitColumns [] [] = Unit {0}
FitColumns (column ∷ columns) (c ∷ cells) = FitsColumn column c × FitColumns columns cells
FitColumns [] (c ∷ cells) = ⊥
FitColumns (column ∷ columns) [] = ⊥

-- the column may have the value that stands for it in tuples that are older than it
abbrev pub HasMissing : Column → Type 0
HasMissing column = fits_type column.ctype column.missing ≡ true
