use Rattle.std.proofs.Common.{sym, subst, ◌∙◌, arith}
use Rattle.copy_out.specs.Readings.{ReadsAs}
use Rattle.copy_out.specs.declared.forms.Form.{Form}
use Rattle.copy_out.proofs.FieldLaws.{mark_tells, value_tells}
use Rattle.copy_out.proofs.ReadBytes.{read_has_bytes}
use Rattle.copy_out.proofs.read_fields.read_cell.Goals as goal

pub returns-in-Some-clause-told : goal.returns-in-Some-clause-told
returns-in-Some-clause-told c d f = mark_tells c.args.column.now c.args.text.now c.in-Some.cell d (sym c.mark_of.ensures ∙ c.in-Some.is) f

pub returns-in_ok-read_value-in-None-clause-told : goal.returns-in_ok-read_value-in-None-clause-told
returns-in_ok-read_value-in-None-clause-told c d f =
    let v = c.in_ok-read_value-in-None.field-0 in
    value_tells c.args.column.now c.args.text.now v d (sym c.mark_of.ensures ∙ c.in-None.is)
    (subst (λ (form : Form). ReadsAs form c.args.text.now v) c.form_of.ensures c.in_ok-read_value-in-None.ensures) f

pub returns-in_ok-read_value-in-None-clause-bytes : goal.returns-in_ok-read_value-in-None-clause-bytes
returns-in_ok-read_value-in-None-clause-bytes c =
    read_has_bytes c.form_of.result c.args.text.now c.in_ok-read_value-in-None.field-0 (λ i. omega (arith, c.type_inv.text i)) c.in_ok-read_value-in-None.ensures
