use Rattle.std.proofs.Common.{◌≡◌, ◌∙◌, ℕ, List, [], ◌∷◌, ◌++◌, ap, arith, append_assoc, to_z-of_z}
use Rattle.std.specs.Fmt.{decimal, signed_decimal}
use Rattle.std.proofs.lemmas.Fmt.{length-decimal-le}
use Rattle.itoa.proofs.Decimal.{minus_first}
use Rattle.text_writer.specs.Writer.{bytes_of}
use Rattle.text_writer.proofs.writer.Waiting.put_number.Goals as goal

pub put_digits-requires : goal.put_digits-requires
put_digits-requires c = omega (arith, length-decimal-le 19 c.unsigned_abs.result (omega arith) (omega arith) (omega arith))

pub put_digits-requires-2 : goal.put_digits-requires-2
put_digits-requires-2 c = omega (arith, c.put.ensures.used, length-decimal-le 19 c.unsigned_abs-2.result (omega arith) (omega arith) (omega arith))

pub returns-clause-bytes : goal.returns-clause-bytes
returns-clause-bytes c =
    let old = bytes_of c.args.self.now in
    let digits = decimal c.unsigned_abs-2.result in
    let back = to_z-of_z c.ranges.n in
    let minus : 45 ∷ digits ≡ signed_decimal c.args.n =
    rw (c.unsigned_abs-2.ensures.value, back) (minus_first c.args.n (rw back at c.if-n-ge0.false)) in
    c.put_digits-2.ensures.bytes ∙ ap (λ (r : List ℕ). r ++ digits) c.put.ensures.bytes ∙ append_assoc old (45 ∷ []) digits ∙ ap (λ (r : List ℕ). old ++ r) minus
