use Rattle.std.proofs.Common.{◌≤◌, ◌∙◌, ◌++◌, ℕ, List, ap, arith, drop, length, map, sym, take}
use Rattle.std.proofs.lemmas.List.{length-map}
use Rattle.key_orders.specs.Values.{value_shown}
use Rattle.page_write.specs.Bodies.{null_part, with_values}
use Rattle.page_write.proofs.LengthLaws.{body_is, values_after}
use Rattle.page_write.proofs.lengths.index_body_length.Goals as goal

pub returns : goal.returns
returns c =
    let cs = c.args.types.now in
    let vs = map value_shown c.args.first.now in
    let ws = map value_shown c.args.rest.now in
    let part : List ℕ = null_part (vs ++ ws) in
    let many = length-map c.args.first.now value_shown in
    let le : length vs ≤ length cs = omega (arith, many, c.requires.count) in
    let front = c.split_at.ensures.front ∙ ap (λ (m : ℕ). take m cs) (sym many) in
    let back = c.split_at.ensures.back ∙ ap (λ (m : ℕ). drop m cs) (sym many) in
    let first = c.values_end-middle.ensures.is part c.null_length.ensures.is in
    let all = c.values_end.ensures.is (with_values c.split_at.result.0.now vs part) first in
    sym (ap length (body_is cs (vs ++ ws) ∙ values_after cs vs ws part le)
    ∙ (λ i. length (with_values (sym back i) ws (with_values (sym front i) vs part))) ∙ all)
