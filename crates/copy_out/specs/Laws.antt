-- What a text tells of its rows.
use Rattle.std.specs.Prelude.{◌≡◌, ℕ, List}
use Rattle.std.specs.List.{AllByRecursion}
use Rattle.case_file.specs.declared.case.Column.{Column}
use Rattle.heap_rows.specs.declared.row_cells.Cell.{Cell}
use Rattle.copy_out.specs.Lines.{IsRow, IsText, text_of}
use Rattle.copy_out.specs.Refused.{IsRefusedAt}

-- two lists of rows of the same columns are equal where their texts are
abbrev pub TextsTellRows : Type 0
TextsTellRows =
    (columns : List Column) (xs ys : List (List Cell)) → AllByRecursion (IsRow columns) xs
    → AllByRecursion (IsRow columns) ys → text_of columns xs ≡ text_of columns ys → xs ≡ ys

-- a text with a refused line is no text of rows
abbrev pub RefusedIsNoText : Type 0
RefusedIsNoText =
    (columns : List Column) (text : List ℕ) (line : ℕ) (rows : List (List Cell)) → IsRefusedAt columns text line
    → IsText columns rows text → ⊥

-- and only one line is refused
abbrev pub RefusedOnce : Type 0
RefusedOnce =
    (columns : List Column) (text : List ℕ) (a b : ℕ) → IsRefusedAt columns text a → IsRefusedAt columns text b → a ≡ b
