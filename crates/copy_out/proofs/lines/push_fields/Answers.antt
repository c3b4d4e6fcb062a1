use Rattle.std.proofs.Common.{◌≡◌, ℕ, ◌+◌, ◌≤◌, length, drop, List, [], ◌++◌, sym, ap, ◌∙◌, arith, append-nil}
use Rattle.std.proofs.lemmas.List.{drop_all}
use Rattle.case_file.specs.declared.case.Column.{Column}
use Rattle.heap_rows.specs.RowValues.{cell_lent}
use Rattle.copy_out.specs.Fields.{cell_text, field_text}
use Rattle.copy_out.specs.Lines.{fields_of}
use Rattle.copy_out.proofs.Fitting.{field_is, fits_field}
use Rattle.copy_out.proofs.Joining.{at_field, field_written, fit_length, none_left, rest_of}
use Rattle.copy_out.proofs.lines.push_fields.Goals as goal

pub bounds-columns-i : goal.bounds-columns-i
bounds-columns-i c = omega (arith, fit_length c.args.columns.now c.args.cells.now c.requires)

pub push_field-requires : goal.push_field-requires
push_field-requires c =
    let columns = c.args.columns.now in
    let cells = c.args.cells.now in
    let i = c.loop-i.i in
    let here = at_field columns cells i c.index-columns-i.result c.index-cells-i.result c.loop-i.invariant.fit
    (omega (arith, fit_length columns cells c.requires)) (omega arith) c.index-columns-i.is c.index-cells-i.is in
    fits_field c.index-columns-i.result c.index-cells-i.result (cell_lent c.lent.result) c.form_of.result c.form_of.ensures c.lent.ensures here.fits

pub loop-i-preserved : goal.loop-i-preserved
loop-i-preserved c =
    let columns = c.args.columns.now in
    let cells = c.args.cells.now in
    let i = c.loop-i.i in
    let column = c.index-columns-i.result in
    let cell = c.index-cells-i.result in
    let here = at_field columns cells i column cell c.loop-i.invariant.fit
    (omega (arith, fit_length columns cells c.requires)) (omega arith) c.index-columns-i.is c.index-cells-i.is in
    let field = field_text column.ctype cell in
    let rest = fields_of (drop (i + 1) columns) (drop (i + 1) cells) in
    let written : cell_text c.form_of.result (cell_lent c.lent.result) ≡ field = field_is column cell (cell_lent c.lent.result) c.form_of.result c.form_of.ensures c.lent.ensures in
    record {
      fit = here.rest;
      told =
          ap (λ (r : List ℕ). r ++ rest_of (i + 1) rest)
          (c.in_ok-push_field.ensures ∙ ap (λ (r : List ℕ). c.push_tab.new.text ++ r) written ∙ ap (λ (r : List ℕ). r ++ field) c.in_ok-push_tab.ensures)
          ∙ field_written i c.loop-i.text field rest
          ∙ ap (λ (fs : List (List ℕ)). c.loop-i.text ++ rest_of i fs) (sym here.field) ∙ c.loop-i.invariant.told;
    }

pub returns : goal.returns
returns c =
    let i = c.loop-i.i in
    let columns = c.args.columns.now in
    let cells = c.args.cells.now in
    let past : length columns ≤ i = omega (arith, fit_length columns cells c.requires) in
    let none : fields_of (drop i columns) (drop i cells) ≡ [] = ap (λ (cs : List Column). fields_of cs (drop i cells)) (drop_all i columns past) in
    sym (append-nil c.loop-i.text) ∙ ap (λ (r : List ℕ). c.loop-i.text ++ r) (sym (none_left i))
    ∙ ap (λ (fs : List (List ℕ)). c.loop-i.text ++ rest_of i fs) (sym none) ∙ c.loop-i.invariant.told
