use Rattle.std.proofs.Common.{◌≡◌, ◌++◌, ◌+◌, ◌<◌, ◌≤◌, List, [], ◌∷◌, length, take, get_or, refl, sym, ap, subst, ◌∙◌, arith}
use Rattle.std.specs.List.{AllByRecursion}
use Rattle.std.proofs.lemmas.List.{take_all, take_more}
use Rattle.case_file.specs.declared.case.Column.{Column}
use Rattle.heap_rows.specs.RowFits.{FitColumns, FitsColumn}
use Rattle.heap_rows.specs.declared.row_cells.Cell.{Cell}
use Rattle.heap_rows.specs.declared.row_cells.Cell.TheVariants.{Packed}
use Rattle.copy_out.specs.Fields.{HasBytes}
use Rattle.copy_out.proofs.Breaks.{each-append}
use Rattle.copy_out.proofs.Joining.{fit_length}
use Rattle.copy_out.proofs.RowSteps.{fit_push, one_more, row_step}
use Rattle.copy_out.proofs.read_lines.read_row.Goals as goal

pub loop-i-preserved : goal.loop-i-preserved
loop-i-preserved c =
    let columns = c.args.columns.now in
    let i = c.loop-i.i in
    let column = c.index-columns-i.result in
    let is = c.index-columns-i.is in
    let cell = c.in_ok-cell.cell in
    let before = c.loop-i.invariant in
    let lt : i < length columns = omega arith in
    let pushed = c.in_ok-push.ensures.ok in
    let fits : FitsColumn column cell = c.if-not-fits.ensures.0 refl in
    let taken : take (i + 1) columns ≡ take i columns ++ column ∷ [] = take_more columns i column lt ∙ ap (λ (x : Column). take i columns ++ x ∷ []) (sym is) in
    record {
      fit =
          subst (λ (cs : List Cell). FitColumns (take (i + 1) columns) cs) (sym pushed)
          (subst (λ (ts : List Column). FitColumns ts (c.loop-i.cells ++ cell ∷ [])) (sym taken)
          (fit_push (take i columns) c.loop-i.cells column cell before.fit fits));
      bytes = subst (AllByRecursion HasBytes) (sym pushed) (each-append HasBytes c.loop-i.cells (cell ∷ []) before.bytes (c.in_ok-cell.ensures.bytes, tt));
      told = λ wanted r e.
          let so_far = before.told wanted r e in
          let next = row_step columns wanted i column c.loop-i.rest.now c.cut_field.result.0.now c.cut_field.result.1.now r lt is so_far.1 c.cut_field.ensures in
          let same = c.in_ok-cell.ensures.told (get_or wanted i Packed) next.is in
          (pushed ∙ one_more columns wanted c.loop-i.cells i cell r lt so_far.0 same, next.rest);
    }

pub returns-then-not-fits : goal.returns-then-not-fits
returns-then-not-fits c wanted r e =
    let columns = c.args.columns.now in
    let i = c.loop-i.i in
    let column = c.index-columns-i.result in
    let is = c.index-columns-i.is in
    let lt : i < length columns = omega arith in
    let so_far = c.loop-i.invariant.told wanted r e in
    let next = row_step columns wanted i column c.loop-i.rest.now c.cut_field.result.0.now c.cut_field.result.1.now r lt is so_far.1 c.cut_field.ensures in
    let same = c.in_ok-cell.ensures.told (get_or wanted i Packed) next.is in
    let fits = subst (FitsColumn column) (sym same) next.is.fits in
    let never = c.if-not-fits.ensures.1 fits in
    cc never

pub returns : goal.returns
returns c =
    let columns = c.args.columns.now in
    let i = c.loop-i.i in
    let before = c.loop-i.invariant in
    let past : length columns ≤ i = omega arith in
    record {
      fit = subst (λ (ts : List Column). FitColumns ts c.loop-i.cells) (take_all i columns past) before.fit;
      bytes = before.bytes;
      told = λ wanted r e. (before.told wanted r e).0 ∙ take_all i wanted (omega (arith, fit_length columns wanted r.fit));
    }
