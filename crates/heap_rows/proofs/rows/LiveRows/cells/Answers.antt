use Rattle.std.proofs.Common.{◌≡◌, ◌<◌, ◌≤◌, ◌∷◌, [], ◌++◌, ◌+◌, List, ℕ, length, sym, ap, subst, ◌∙◌, arith}
use Rattle.std.proofs.lemmas.List.{length-append}
use Rattle.std.specs.Prelude.{slice_get}
use Rattle.heap_rows.specs.declared.row_cells.Cell.{Cell}
use Rattle.heap_rows.specs.declared.row_values.AskedColumns.{AskedColumns}
use Rattle.heap_rows.specs.declared.row_values.AskedColumns.TheVariants.{All}
use Rattle.heap_rows.specs.declared.rows.LiveRow.{LiveRow}
use Rattle.heap_rows.specs.RowValues.{cell_lent, column_asked}
use Rattle.heap_rows.proofs.RowCopies.{all_taken, fit_by, take_next}
use Rattle.heap_rows.proofs.RowFits.{FitFirst, fit_all}
use Rattle.heap_rows.proofs.RowHeads.{first_is}
use Rattle.heap_rows.proofs.rows.LiveRows.cells.Goals as goal

pub loop-k-preserved : goal.loop-k-preserved
loop-k-preserved c =
    let cursor = c.args.self.now.cursor in
    let columns = cursor.case.now.columns in
    let k = c.loop-k.k in
    let all : cursor.asked ≡ All = c.is_all.ensures.0 c.if-not-is_all.false in
    let at : column_asked cursor.asked k ≡ k = ap (λ (a : AskedColumns). column_asked a k) all in
    let now : c.push.new.self ≡ c.loop-k.cells ++ cell_lent c.value.result ∷ [] = c.in_ok-push.ensures.ok ∙ ap (λ (x : Cell). c.loop-k.cells ++ x ∷ []) c.in_ok-to_cell.ensures in
    let lt : k < length columns = omega (arith, c.loop-k-test.true, c.loop-k.auto.k-end, ap length c.columns-k-end.ensures) in
    record {
      cells = λ names row rows are is.
          let here = ap (slice_get row.cells) (sym at) ∙ c.value.ensures.cell names row rows are.cursor is in
          now ∙ ap (λ (cs : List Cell). cs ++ cell_lent c.value.result ∷ []) (c.loop-k.invariant.cells names row rows are is) ∙ take_next row.cells k (cell_lent c.value.result) here;
      each = ap length now ∙ length-append c.loop-k.cells (cell_lent c.value.result ∷ []) ∙ ap (λ (n : ℕ). n + 1) c.loop-k.invariant.each;
      fits = subst (FitFirst columns) (sym now)
          (fit_by columns c.loop-k.cells k (cell_lent c.value.result) c.loop-k.invariant.each lt c.loop-k.invariant.fits (λ column is. c.value.ensures.fits column (ap (slice_get columns) at ∙ is)));
    }

pub returns-clause-cells : goal.returns-clause-cells
returns-clause-cells c = λ names row rows are is.
    let cursor = c.args.self.now.cursor in
    let next = are.cursor.next c.requires.at.places.found in
    let long : length row.cells ≡ length cursor.case.now.columns = ap (λ (r : LiveRow). length r.cells) (sym (first_is names cursor row rows next is)) ∙ next.row.columns in
    let le : length row.cells ≤ c.loop-k.k = omega (arith, long, c.loop-k-test.false, c.loop-k.auto.k-end, ap length c.columns-k-end.ensures) in
    all_taken row.cells c.loop-k.k c.loop-k.cells (c.loop-k.invariant.cells names row rows are is) le

pub returns-clause-fits : goal.returns-clause-fits
returns-clause-fits c =
    let columns = c.args.self.now.cursor.case.now.columns in
    let long : length c.loop-k.cells ≡ length columns = omega (arith, c.loop-k.invariant.each, c.loop-k-test.false, c.loop-k.auto.k-end, ap length c.columns-k-end.ensures) in
    fit_all columns c.loop-k.cells long c.loop-k.invariant.fits
