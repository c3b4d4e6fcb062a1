use Rattle.std.proofs.Common.{◌≡◌, ℤ, to_z, of_z, w64, sym, ap, ◌∙◌}
use Rattle.std.proofs.lemmas.Fmt.{parse-signed_decimal}
use Rattle.std.proofs.Math.Facts.{to_z-of_z}
use Rattle.copy_out.proofs.read_fields.number_of.Goals as goal

pub returns-in-Ok : goal.returns-in-Ok
returns-in-Ok c z small is =
    let given = parse-signed_decimal w64 z c.args.word.now c.parse.result (record { sfits = small }) small is c.parse.ensures.value.0 in
    let same = sym c.in-Ok.is ∙ given in
    let n : c.in-Ok.n ≡ z = cc in
    ap (λ (m : ℤ). to_z w64 (of_z w64 m)) n ∙ to_z-of_z {w = w64} (record { sfits = small })

pub returns-in-Err : goal.returns-in-Err
returns-in-Err c z small is =
    let given = parse-signed_decimal w64 z c.args.word.now c.parse.result (record { sfits = small }) small is c.parse.ensures.value.0 in
    cc (sym c.in-Err.is ∙ given)
