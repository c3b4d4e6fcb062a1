use Rattle.std.proofs.Common.{◌≡◌, ◌∙◌, ap, arith, of_z, rules, sym, to_z, w64}
use Rattle.key_storage.proofs.RowLaws.{number_read, one}
use Rattle.key_storage.proofs.rows.small_number.Goals as goal

pub returns-then-bits-clause-is : goal.returns-then-bits-clause-is
returns-then-bits-clause-is c =
    let z = c.in_ok-one_number.field-0 in
    let same : to_z w64 (of_z w64 z) ≡ z = search rules in
    number_read c.cast_unsigned-bits.result (omega (arith, c.if-bits.true))
    ∙ ap one (ap (to_z w64) (c.cast_unsigned-bits.ensures ∙ ap (of_z w64) same) ∙ same)
    ∙ sym c.in_ok-one_number.ensures
