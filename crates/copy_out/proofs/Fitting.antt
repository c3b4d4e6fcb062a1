-- A cell that its column may have can be written by the form of the column's type.
use Rattle.std.proofs.Common.{◌≡◌, true, length, sym, ap, subst, ◌∙◌}
use Rattle.std.proofs.lemmas.Bool.{eqb-true}
use Rattle.key_orders.specs.Orders.{fits_type}
use Rattle.key_orders.specs.declared.columns.ColType.{ColType}
use Rattle.key_orders.specs.declared.columns.ColType.TheVariants as of
use Rattle.key_orders.specs.declared.columns.Value.{Value}
use Rattle.key_orders.specs.declared.columns.Value.TheVariants.{Null, Bool as BoolValue, Int, Bytes}
use Rattle.case_file.specs.declared.case.Column.{Column}
use Rattle.heap_rows.specs.RowFits.{FitsColumn}
use Rattle.heap_rows.specs.declared.row_cells.Cell.{Cell}
use Rattle.heap_rows.specs.declared.row_cells.Cell.TheVariants.{Held, Packed}
use Rattle.copy_out.specs.Fields.{FitsAs, FitsForm, cell_text, field_text, form_of}
use Rattle.copy_out.specs.declared.forms.Form.{Form}

fits_form : (ctype : ColType) (v : Value) → fits_type ctype v ≡ true → FitsForm (form_of ctype) v
fits_form of.Uuid Null h = tt
fits_form of.Uuid (BoolValue b) h = tt
fits_form of.Uuid (Int z) h = tt
fits_form of.Uuid (Bytes bytes) h = eqb-true (length bytes) 16 h
fits_form of.Bool v h = tt
fits_form of.Int2 v h = tt
fits_form of.Int4 v h = tt
fits_form of.Int8 v h = tt
fits_form of.Text v h = tt
fits_form of.Bytea v h = tt
fits_form of.Oid v h = tt
fits_form of.Date v h = tt
fits_form of.Timestamp v h = tt
fits_form of.Timestamptz v h = tt
fits_form (of.Fixed len align) v h = tt
fits_form (of.Varlena align) v h = tt

pub fits_as : (column : Column) (c : Cell) → FitsColumn column c → FitsAs (form_of column.ctype) c
fits_as column Packed h = tt
fits_as column (Held v) h = fits_form column.ctype v h

-- what is written: by the form of the column's type, of the same cell
pub fits_field : (column : Column) (c d : Cell) (form : Form) → form ≡ form_of column.ctype → d ≡ c → FitsColumn column c → FitsAs form d
fits_field column c d form f e h =
    subst (λ (x : Form). FitsAs x d) (sym f) (subst (FitsAs (form_of column.ctype)) (sym e) (fits_as column c h))

pub field_is : (column : Column) (c d : Cell) (form : Form) → form ≡ form_of column.ctype → d ≡ c → cell_text form d ≡ field_text column.ctype c
field_is column c d form f e = ap (λ (x : Form). cell_text x d) f ∙ ap (cell_text (form_of column.ctype)) e
