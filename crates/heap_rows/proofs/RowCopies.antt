-- The rows that are copied of what a cursor lends.
use Rattle.std.proofs.Common.{◌≡◌, ℕ, zero, suc, ◌+◌, ◌<◌, ◌≤◌, List, [], ◌∷◌, ◌++◌, drop, length, take, refl, ap, sym, ◌∙◌, arith}
use Rattle.std.specs.Prelude.{Option, Some, slice_get}
use Rattle.std.proofs.lemmas.List.{take_all}
use Rattle.case_file.specs.declared.case.Column.{Column}
use Rattle.key_orders.specs.declared.Tid.{Tid}
use Rattle.heap_rows.specs.declared.row_cells.Cell.{Cell}
use Rattle.heap_rows.specs.declared.row_cursor.RowPlace.{RowPlace}
use Rattle.heap_rows.specs.declared.rows.LiveRow.{LiveRow}
use Rattle.heap_rows.specs.RowCursor.{IsPlaceOfFirst}
use Rattle.heap_rows.specs.RowFits.{FitsColumn}
use Rattle.heap_rows.proofs.RowFits.{FitFirst}

-- one cell more of a row
pub take_next : (cells : List Cell) (k : ℕ) (c : Cell) → slice_get cells k ≡ Some c → take k cells ++ c ∷ [] ≡ take (k + 1) cells
take_next [] k c is = cc
take_next (x ∷ cells) zero c is = let same : c ≡ x = some_same c x is in ap (λ (y : Cell). y ∷ []) same
  where
    some_same : (a b : Cell) → ◌≡◌ {A = Option Cell} (Some b) (Some a) → a ≡ b
    some_same a b e = cc
take_next (x ∷ cells) (suc k) c is =
    let more : suc k + 1 ≡ suc (k + 1) = omega arith in
    ap (λ (cs : List Cell). x ∷ cs) (take_next cells k c is) ∙ sym (ap (λ (n : ℕ). take n (x ∷ cells)) more)

pub fit_by : (columns : List Column) (cells : List Cell) (k : ℕ) (c : Cell) → length cells ≡ k → k < length columns → FitFirst columns cells → ((column : Column) → slice_get columns k ≡ Some column → FitsColumn column c) → FitFirst columns (cells ++ c ∷ [])
fit_by (column ∷ columns) [] zero c long lt first fits = (fits column refl, tt)
fit_by (column ∷ columns) (x ∷ cells) (suc k) c long lt first fits = (first.0, fit_by columns cells k c (omega (arith, long)) (omega (arith, lt)) first.1 fits)
fit_by (column ∷ columns) [] (suc k) c long lt first fits = cc
fit_by (column ∷ columns) (x ∷ cells) zero c long lt first fits = cc
fit_by [] cells k c long lt first fits = absurd (omega (arith, lt))

pub all_taken : (cells : List Cell) (k : ℕ) (so_far : List Cell) → so_far ≡ take k cells → length cells ≤ k → ◌≡◌ {A = Option (List Cell)} (Some so_far) (Some cells)
all_taken cells k so_far is le = ap (λ (cs : List Cell). Some cs) (is ∙ take_all k cells le)

-- where a row is ahead, its cells are there
pub cells_there : (found : Option (List Cell)) (place : RowPlace) (rows : List LiveRow) → IsPlaceOfFirst (Some place) rows → ((row : LiveRow) (rest : List LiveRow) → rows ≡ row ∷ rest → found ≡ Some row.cells) → ((cells : List Cell) → found ≡ Some cells → ⊥) → ⊥
cells_there found place [] first is none = first
cells_there found place (row ∷ rest) first is none = none row.cells (is row rest refl)

-- the row that is given is the first, with those after it
pub given_first : (place : RowPlace) (cells : List Cell) (rows after : List LiveRow) → IsPlaceOfFirst (Some place) rows → ((row : LiveRow) (rest : List LiveRow) → rows ≡ row ∷ rest → ◌≡◌ {A = Option (List Cell)} (Some cells) (Some row.cells)) → after ≡ drop 1 rows
    → rows ≡ record { tid = place.tid; root = place.root; cells = cells } ∷ after
given_first place cells [] after first is left = absurd first
given_first place cells (row ∷ rest) after first is left =
    let same : cells ≡ row.cells = some_cells cells row.cells (is row rest refl) in
    ap (λ (t : Tid). record { tid = t; root = row.root; cells = row.cells } ∷ rest) (sym first.0)
    ∙ ap (λ (t : Tid). record { tid = place.tid; root = t; cells = row.cells } ∷ rest) (sym first.1)
    ∙ ap (λ (cs : List Cell). record { tid = place.tid; root = place.root; cells = cs } ∷ rest) (sym same)
    ∙ ap (λ (xs : List LiveRow). record { tid = place.tid; root = place.root; cells = cells } ∷ xs) (sym left)
  where
    some_cells : (a b : List Cell) → ◌≡◌ {A = Option (List Cell)} (Some a) (Some b) → a ≡ b
    some_cells a b e = cc
