-- The first of the rows that are ahead, and what is lent of it.
use Rattle.std.proofs.Common.{◌≡◌, ℕ, ◌+◌, ◌-◌, ◌<◌, false, List, [], ◌∷◌, ◌++◌, drop, length, get_or, refl, ap, sym, subst, ◌∙◌}
use Rattle.std.specs.Prelude.{Option, Some, None, slice_get}
use Rattle.std.proofs.lemmas.Option.{slice_get_within}
use Rattle.outside.specs.Outside.{Names}
use Rattle.case_file.specs.Record.{CaseRecord}
use Rattle.case_file.specs.declared.case.Column.{Column}
use Rattle.heap_table_check.specs.Case.{heap_blocks}
use Rattle.heap_rows.specs.declared.row_cells.Cell.{Cell}
use Rattle.heap_rows.specs.declared.row_cursor.RowCursor.{RowCursor}
use Rattle.heap_rows.specs.declared.row_page.RowPage.{RowPage}
use Rattle.heap_rows.specs.declared.row_values.AskedColumns.{AskedColumns}
use Rattle.heap_rows.specs.declared.row_values.ValuePlace.{ValuePlace}
use Rattle.heap_rows.specs.declared.row_values.ValuePlace.TheVariants as place
use Rattle.heap_rows.specs.declared.rows.LiveRow.{LiveRow}
use Rattle.heap_rows.specs.RowCursor.{case_at, rows_ahead}
use Rattle.heap_rows.specs.RowPages.{IsNext, cell_or_none, rows_in_hand}
use Rattle.heap_rows.specs.RowValues.{FitsColumnAt, FitsPlace, asked_cell, cell_shown, column_asked, shown_by}
use Rattle.heap_rows.specs.Rows.{block_rows, each_from, row_at}
use Rattle.heap_rows.proofs.RowSources.{ahead_is}
use Rattle.heap_rows.proofs.RowSteps.{in_hand_next}
use Rattle.heap_rows.proofs.RowValues.{column_is}

-- the page with the next item done
abbrev pub past : RowPage → RowPage
past page = record page { done = page.done + 1; found = false }

abbrev pub gone : RowCursor → RowCursor
gone cursor = record { case = cursor.case; heap = cursor.heap; asked = cursor.asked; starts = cursor.starts; logs = cursor.logs; page = past cursor.page; next = cursor.next; taken = cursor.taken }

-- the row of the next item
abbrev pub next_of : Names → RowCursor → LiveRow
next_of names cursor = row_at (case_at cursor) names cursor.page.block cursor.page.bytes (cursor.page.done + 1)

pub in_hand_first : (case : CaseRecord) (names : Names) (asked : AskedColumns) (page : RowPage) → IsNext case names asked page → rows_in_hand case names page ≡ row_at case names page.block page.bytes (page.done + 1) ∷ rows_in_hand case names (past page)
in_hand_first case names asked page next =
    in_hand_next case names page (past page) (row_at case names page.block page.bytes (page.done + 1) ∷ []) (record { block = refl; bytes = refl; count = refl; plain = refl; states = refl; roots = refl }) refl next.inside next.row.one

-- the rows that are ahead are that row and those after it
pub ahead_first : (names : Names) (cursor : RowCursor) → IsNext (case_at cursor) names cursor.asked cursor.page → rows_ahead names cursor ≡ next_of names cursor ∷ rows_ahead names (gone cursor)
ahead_first names cursor next =
    ahead_is names cursor
    ∙ ap (λ (xs : List LiveRow). xs ++ each_from (block_rows (case_at cursor) names) cursor.next (heap_blocks (case_at cursor) names - cursor.next)) (in_hand_first (case_at cursor) names cursor.asked cursor.page next)
    ∙ ap (λ (xs : List LiveRow). next_of names cursor ∷ xs) (sym (ahead_is names (gone cursor)))

pub ahead_next : (names : Names) (cursor : RowCursor) → IsNext (case_at cursor) names cursor.asked cursor.page → rows_ahead names (gone cursor) ≡ drop 1 (rows_ahead names cursor)
ahead_next names cursor next = sym (ap (λ (xs : List LiveRow). drop 1 xs) (ahead_first names cursor next))

-- it is the row that is given as the first
pub first_is : (names : Names) (cursor : RowCursor) (row : LiveRow) (rows : List LiveRow) → IsNext (case_at cursor) names cursor.asked cursor.page → rows_ahead names cursor ≡ row ∷ rows → next_of names cursor ≡ row
first_is names cursor row rows next is = heads (next_of names cursor) row (rows_ahead names (gone cursor)) rows (sym (ahead_first names cursor next) ∙ is)
  where
    heads : (x y : LiveRow) (xs ys : List LiveRow) → x ∷ xs ≡ y ∷ ys → x ≡ y
    heads x y xs ys e = cc

-- What is lent

-- a column that has a place is one of the table's
has_by : (joined : ℕ) (columns : List Column) (a : ℕ) (at : ValuePlace) (o : Option Column) → slice_get columns a ≡ o → FitsColumnAt joined o at → a < length columns
has_by joined columns a at None is fits = absurd fits
has_by joined columns a at (Some column) is fits = slice_get_within columns a column is

pub has_column : (joined : ℕ) (columns : List Column) (a : ℕ) (at : ValuePlace) → FitsColumnAt joined (slice_get columns a) at → a < length columns
has_column joined columns a at fits = has_by joined columns a at (slice_get columns a) refl fits

pub place_of_column : (joined : ℕ) (columns : List Column) (a : ℕ) (d : Column) (at : ValuePlace) → FitsColumnAt joined (slice_get columns a) at → FitsPlace joined (get_or columns a d).ctype at
place_of_column joined columns a d at fits = subst (λ (o : Option Column). FitsColumnAt joined o at) (column_is columns a d (has_column joined columns a at fits)) fits

pub asked_is : (page joined : List ℕ) (columns : List Column) (asked : AskedColumns) (places : List ValuePlace) (k : ℕ) (d : Column) → column_asked asked k < length columns → asked_cell page joined columns asked places k ≡ cell_shown page joined (get_or columns (column_asked asked k) d) (get_or places k place.Null) ∷ []
unfolding asked_cell
asked_is page joined columns asked places k d lt = ap (λ (o : Option Column). shown_by page joined o (get_or places k place.Null)) (column_is columns (column_asked asked k) d lt)

pub one_cell : (o : Option Cell) (c : Cell) → c ∷ [] ≡ cell_or_none o → o ≡ Some c
one_cell None c e = cc
one_cell (Some d) c e = cc

pub same_column : (c d : Column) → ◌≡◌ {A = Option Column} (Some c) (Some d) → c ≡ d
same_column c d e = cc
