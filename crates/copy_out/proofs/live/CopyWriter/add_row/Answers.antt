use Rattle.std.proofs.Common.{◌≡◌, ◌<◌, ◌∷◌, [], ◌++◌, ℕ, List, length, sym, ap, ◌∙◌, arith, length-append, refl}
use Rattle.std.specs.Prelude.{Some, slice_get}
use Rattle.std.proofs.lemmas.Option.{slice_get-get_or}
use Rattle.case_file.specs.declared.case.Column.{Column}
use Rattle.heap_rows.specs.RowFits.{FitsColumn}
use Rattle.heap_rows.specs.RowValues.{cell_lent}
use Rattle.heap_rows.specs.declared.rows.LiveRow.{LiveRow}
use Rattle.heap_rows.proofs.RowHeads.{first_is}
use Rattle.copy_out.specs.Fields.{cell_text, field_text}
use Rattle.copy_out.specs.Lines.{tab_before}
use Rattle.copy_out.proofs.Asking.{asked_count, asked_number}
use Rattle.copy_out.proofs.Copying.{part_all, part_next, part_none}
use Rattle.copy_out.proofs.Fitting.{field_is, fits_field}
use Rattle.copy_out.proofs.live.CopyWriter.add_row.Goals as goal

pub loop-k-init : goal.loop-k-init
loop-k-init c = record {
  part = λ names row rows are is. part_none c.args.columns.now row.cells c.args.self.now;
  counted = c.requires.counted;
}

pub value-cell-requires-clause-inside : goal.value-cell-requires-clause-inside
value-cell-requires-clause-inside c =
    let count = asked_count c.args.columns.now c.args.cursor.now c.requires.over in
    omega (arith, count)

-- the column at which the loop is may have the cell that is lent
pub add_field-requires-clause-fits : goal.add_field-requires-clause-fits
add_field-requires-clause-fits c =
    let columns = c.args.columns.now in
    let cursor = c.args.cursor.now in
    let k = c.loop-k.k in
    let column = c.index-columns-k.result in
    let cell = cell_lent c.value-cell.result in
    let lt : k < length columns = omega arith in
    let at = asked_number columns cursor k c.requires.over lt in
    let there : slice_get columns k ≡ Some column = slice_get-get_or columns k column lt ∙ ap (λ (x : Column). Some x) (sym c.index-columns-k.is) in
    let fits : FitsColumn column cell = c.value-cell.ensures.fits column (ap (slice_get cursor.case.now.columns) at ∙ ap (λ (cs : List Column). slice_get cs k) c.requires.over.table ∙ there) in
    fits_field column cell cell c.form_of.result c.form_of.ensures refl fits

pub loop-k-preserved : goal.loop-k-preserved
loop-k-preserved c =
    let columns = c.args.columns.now in
    let cursor = c.args.cursor.now in
    let k = c.loop-k.k in
    let column = c.index-columns-k.result in
    let cell = cell_lent c.value-cell.result in
    let lt : k < length columns = omega arith in
    let at = asked_number columns cursor k c.requires.over lt in
    let written : cell_text c.form_of.result cell ≡ field_text column.ctype cell = field_is column cell cell c.form_of.result c.form_of.ensures refl in
    let added = c.in_ok-add_field.ensures in
    record {
      part = λ names row rows are is.
          let there : slice_get row.cells k ≡ Some cell = ap (slice_get row.cells) (sym at) ∙ c.value-cell.ensures.cell names row rows are is in
          part_next columns row.cells k column cell c.args.self.now c.loop-k.self c.add_field.new.self lt c.index-columns-k.is there
          (added.text ∙ ap (λ (r : List ℕ). c.push_tab.new.text ++ r) written ∙ ap (λ (r : List ℕ). r ++ field_text column.ctype cell) c.in_ok-push_tab.ensures)
          added.unread (c.loop-k.invariant.part names row rows are is);
      counted = added.counted;
    }

pub add_field-requires-clause-counted : goal.add_field-requires-clause-counted
add_field-requires-clause-counted c =
    omega (arith, c.loop-k.invariant.counted, ap length c.in_ok-push_tab.ensures, length-append c.loop-k.self.text (tab_before c.loop-k.k))

pub returns-clause-counted : goal.returns-clause-counted
returns-clause-counted c =
    omega (arith, c.loop-k.invariant.counted, ap length c.in_ok-push.ensures, length-append c.loop-k.self.text (10 ∷ []))

pub returns-clause-added : goal.returns-clause-added
returns-clause-added c = λ names row rows are is.
    let columns = c.args.columns.now in
    let cursor = c.args.cursor.now in
    let next = are.next c.requires.at.places.found in
    let long : length row.cells ≡ length columns =
    ap (λ (r : LiveRow). length r.cells) (sym (first_is names cursor row rows next is)) ∙ next.row.columns ∙ ap length c.requires.over.table in
    part_all columns row.cells c.loop-k.k c.args.self.now c.loop-k.self _ (omega arith) (omega (arith, long)) c.in_ok-push.ensures refl
    (c.loop-k.invariant.part names row rows are is)
