-- The text of a row, and of rows.
use Rattle.std.specs.Prelude.{◌≡◌, ℕ, ◌==◌, if◌then◌else◌, Bool, true, false, List, [], ◌∷◌, ◌++◌, codes}
use Rattle.std.specs.List.{AllByRecursion, count_by, flat_map, join_with_byte, sum_by}
use Rattle.case_file.specs.declared.case.Column.{Column}
use Rattle.heap_rows.specs.declared.row_cells.Cell.{Cell}
use Rattle.heap_rows.specs.declared.row_cells.Cell.TheVariants.{Held, Packed}
use Rattle.heap_rows.specs.RowFits.{FitColumns}
use Rattle.copy_out.specs.Fields.{HasBytes, field_text}

-- the fields of a row, one for each column
abbrev pub fields_of : List Column → List Cell → List (List ℕ)
fields_of (column ∷ columns) (c ∷ cells) = field_text column.ctype c ∷ fields_of columns cells
fields_of [] cells = []
fields_of (column ∷ columns) [] = []

-- fields joined by a tab
abbrev pub joined : List (List ℕ) → List ℕ
joined fields = join_with_byte 9 fields

-- so a tab stands before each field but the first, by its number from 0
abbrev pub tab_before : ℕ → List ℕ
tab_before i = if i == 0 then [] else codes "\t"

-- a row is its fields joined by a tab and ended by a line feed
abbrev pub row_text : List Column → List Cell → List ℕ
row_text columns cells = joined (fields_of columns cells)

unfoldable pub line_of : List Column → List Cell → List ℕ
line_of columns cells = row_text columns cells ++ codes "\n"

-- the text is the rows joined
abbrev pub text_of : List Column → List (List Cell) → List ℕ
text_of columns rows = flat_map (line_of columns) rows

-- a row of these columns: there is one cell for each, which it may have, and whose bytes are bytes
pub record IsRow (columns : List Column) (cells : List Cell) : Type 0 where
  pub fit : FitColumns columns cells
  pub bytes : AllByRecursion HasBytes cells

-- these bytes are the text of rows of these columns
pub record IsText (columns : List Column) (rows : List (List Cell)) (text : List ℕ) : Type 0 where
  pub fit : AllByRecursion (IsRow columns) rows
  pub is : text ≡ text_of columns rows

-- a compressed value isn't read
abbrev pub is_unread : Cell → Bool
is_unread (Held v) = false
is_unread Packed = true

-- how many values of a row, and of rows, aren't read
abbrev pub unread_in : List Cell → ℕ
unread_in cells = count_by is_unread cells

abbrev pub unread_of : List (List Cell) → ℕ
unread_of rows = sum_by unread_in rows
