use Rattle.std.proofs.Common.{◌≡◌, ◌<◌, ◌∷◌, [], List, ℕ, length, get_or, ap, sym, subst, ◌∙◌, arith}
use Rattle.std.specs.Prelude.{slice_get}
use Rattle.std.proofs.lemmas.Option.{get_or_from_slice_get, slice_get-get_or}
use Rattle.case_file.specs.declared.case.Column.{Column}
use Rattle.heap_rows.specs.declared.row_cells.Cell.{Cell}
use Rattle.heap_rows.specs.declared.row_values.ValuePlace.TheVariants.{Null}
use Rattle.heap_rows.specs.declared.rows.LiveRow.{LiveRow}
use Rattle.heap_rows.specs.RowFits.{FitsColumn}
use Rattle.heap_rows.specs.RowValues.{cell_lent, cell_shown, column_asked}
use Rattle.heap_rows.proofs.RowHeads.{asked_is, first_is, has_column, next_of, one_cell, same_column}
use Rattle.heap_rows.proofs.RowValues.{column_is}
use Rattle.heap_rows.proofs.row_cursor.RowCursor.value.Goals as goal

pub returns-clause-cell : goal.returns-clause-cell
returns-clause-cell c = λ names row rows are is.
    let cursor = c.args.self.now in
    let page = cursor.page in
    let columns = cursor.case.now.columns in
    let asked = cursor.asked in
    let places = page.values.places.items in
    let joined = page.values.joined.items in
    let k = c.args.k in
    let a = column_asked asked k in
    let d = c.index-columns-column.result in
    let at = c.requires.at.places in
    let next = are.next at.found in
    let lt : a < length columns = has_column (length joined) columns a (get_or places k Null) (at.fit k c.requires.inside) in
    let within : k < length places = omega (arith, at.count, c.requires.inside) in
    let place : c.index.result.now ≡ get_or places k Null = c.index.ensures ∙ sym (get_or_from_slice_get places k (get_or places k c.index.result.now) Null (slice_get-get_or places k c.index.result.now within)) in
    let column : d ≡ get_or columns a d = c.index-columns-column.is ∙ ap (λ (cs : List Column). get_or cs c.column.result d) c.columns.ensures ∙ ap (λ (i : ℕ). get_or columns i d) c.column.ensures in
    let lent : cell_lent c.value_at.result ≡ cell_shown page.bytes joined (get_or columns a d) (get_or places k Null) =
    c.value_at.ensures.cell
    ∙ ap (λ (j : List ℕ). cell_shown page.bytes j d c.index.result.now) c.deref.ensures.value
    ∙ ap (λ (l : Column). cell_shown page.bytes joined l c.index.result.now) column
    ∙ ap (cell_shown page.bytes joined (get_or columns a d)) place in
    let shown = ap (λ (x : Cell). x ∷ []) lent ∙ sym (asked_is page.bytes joined columns asked places k d lt) in
    ap (λ (r : LiveRow). slice_get r.cells a) (sym (first_is names cursor row rows next is))
    ∙ one_cell (slice_get (next_of names cursor).cells a) (cell_lent c.value_at.result) (shown ∙ next.row.cells k c.requires.inside)

pub returns-clause-fits : goal.returns-clause-fits
returns-clause-fits c = λ column is.
    let cursor = c.args.self.now in
    let columns = cursor.case.now.columns in
    let a = column_asked cursor.asked c.args.k in
    let d = c.index-columns-column.result in
    let at = c.requires.at.places in
    let lt : a < length columns = has_column (length cursor.page.values.joined.items) columns a (get_or cursor.page.values.places.items c.args.k Null) (at.fit c.args.k c.requires.inside) in
    let here : d ≡ get_or columns a d = c.index-columns-column.is ∙ ap (λ (cs : List Column). get_or cs c.column.result d) c.columns.ensures ∙ ap (λ (i : ℕ). get_or columns i d) c.column.ensures in
    let same : d ≡ column = here ∙ same_column _ _ (sym (column_is columns a d lt) ∙ is) in
    subst (λ (l : Column). FitsColumn l (cell_lent c.value_at.result)) same c.value_at.ensures.fits
