use Rattle.std.proofs.Common.{List, ℕ, ◌++◌, sym, ap, ◌∙◌, append_assoc}
use Rattle.hex.specs.Hex.{encode_lower, lower_digits}
use Rattle.text_writer.proofs.Encoding.{encode_with-append}
use Rattle.text_writer.proofs.hexadecimal.push_hexadecimal.Goals as goal

pub loop-rest-preserved : goal.loop-rest-preserved
loop-rest-preserved c =
    let part = c.split_at.result.0.now in
    let after = c.split_at.result.1.now in
    ap (λ (r : List ℕ). r ++ encode_lower after) c.in_ok-push_few_digits.ensures
    ∙ append_assoc c.loop-rest.text (encode_lower part) (encode_lower after)
    ∙ ap (λ (r : List ℕ). c.loop-rest.text ++ r) (sym (encode_with-append lower_digits part after) ∙ ap encode_lower (sym c.split_at.ensures.by_index.0))
    ∙ c.loop-rest.invariant
