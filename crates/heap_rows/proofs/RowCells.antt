-- The cells of a row, column by column.
use Rattle.std.proofs.Common.{◌≡◌, ℕ, zero, suc, ◌<◌, List, [], ◌∷◌, length, refl, ap, sym, ◌∙◌, arith}
use Rattle.std.specs.Prelude.{map, slice_get}
use Rattle.outside.specs.Adds.{each_below}
use Rattle.case_file.specs.declared.case.Column.{Column}
use Rattle.varlena_attrs.specs.Forms.{Attribute}
use Rattle.varlena_attrs.specs.declared.places.ToastPointer.{ToastPointer}
use Rattle.heap_rows.specs.declared.row_cells.Cell.{Cell}
use Rattle.heap_rows.specs.RowPages.{cell_or_none}
use Rattle.heap_rows.specs.RowValues.{FitTypes}
use Rattle.heap_rows.specs.Rows.{cell_at, cell_of, cells_of}
use Rattle.heap_rows.proofs.Lists.{each_below-first}

pub cells_of-next : (bytes : ToastPointer → List ℕ) (column : Column) (columns : List Column) (a : Attribute) (list : List Attribute) → cells_of bytes (column ∷ columns) (a ∷ list) ≡ cell_of bytes column a ∷ cells_of bytes columns list
unfolding cells_of cell_at
cells_of-next bytes column columns a list = each_below-first (cell_at bytes (column ∷ columns) (a ∷ list)) (length columns)

pub cells_of-none : (bytes : ToastPointer → List ℕ) → cells_of bytes [] [] ≡ []
unfolding cells_of each_below
cells_of-none bytes = refl

-- there is one for each column
pub cells_long : (bytes : ToastPointer → List ℕ) (columns : List Column) (list : List Attribute) → FitTypes (map (λ c. c.ctype) columns) list → length (cells_of bytes columns list) ≡ length columns
cells_long bytes [] [] fit = ap length (cells_of-none bytes)
cells_long bytes (column ∷ columns) (a ∷ list) fit = ap length (cells_of-next bytes column columns a list) ∙ ap (λ (n : ℕ). suc n) (cells_long bytes columns list fit.1)
cells_long bytes [] (a ∷ list) fit = absurd fit
cells_long bytes (column ∷ columns) [] fit = absurd fit

cell_at-next : (bytes : ToastPointer → List ℕ) (column : Column) (columns : List Column) (a : Attribute) (list : List Attribute) (k : ℕ) → cell_at bytes (column ∷ columns) (a ∷ list) (suc k) ≡ cell_at bytes columns list k
unfolding cell_at
cell_at-next bytes column columns a list k = refl

cell_at-first : (bytes : ToastPointer → List ℕ) (column : Column) (columns : List Column) (a : Attribute) (list : List Attribute) → cell_at bytes (column ∷ columns) (a ∷ list) 0 ≡ cell_of bytes column a ∷ []
unfolding cell_at
cell_at-first bytes column columns a list = refl

-- the cell of a column is the one of that number
pub cell_there : (bytes : ToastPointer → List ℕ) (columns : List Column) (list : List Attribute) (k : ℕ) → FitTypes (map (λ c. c.ctype) columns) list → k < length columns → cell_at bytes columns list k ≡ cell_or_none (slice_get (cells_of bytes columns list) k)
cell_there bytes [] list k fit lt = absurd (omega (arith, lt))
cell_there bytes (column ∷ columns) [] k fit lt = absurd fit
cell_there bytes (column ∷ columns) (a ∷ list) zero fit lt =
    cell_at-first bytes column columns a list
    ∙ sym (ap (λ (cs : List Cell). cell_or_none (slice_get cs 0)) (cells_of-next bytes column columns a list))
cell_there bytes (column ∷ columns) (a ∷ list) (suc k) fit lt =
    cell_at-next bytes column columns a list k
    ∙ cell_there bytes columns list k fit.1 (omega (arith, lt))
    ∙ sym (ap (λ (cs : List Cell). cell_or_none (slice_get cs (suc k))) (cells_of-next bytes column columns a list))
