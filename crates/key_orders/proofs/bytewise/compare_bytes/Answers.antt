use Rattle.std.proofs.Common.{◌∙◌}
use Rattle.key_orders.proofs.Leading.{cut_is, eights_differ, eights_same}
use Rattle.key_orders.proofs.bytewise.compare_bytes.Goals as goal

pub returns-then-left-right : goal.returns-then-left-right
returns-then-left-right c =
    let a = c.in-Some-Some.ensures.cases in
    let b = c.in-Some-Some.ensures'.cases in
    let left = cut_is c.args.a.now c.in-Some-Some.first_a.now c.in-Some-Some.others_a.now c.chunk_number-left.result a.0 a.1 a.2 c.chunk_number-left.ensures.small c.chunk_number-left.ensures.number in
    let right = cut_is c.args.b.now c.in-Some-Some.first_b.now c.in-Some-Some.others_b.now c.chunk_number-right.result b.0 b.1 b.2 c.chunk_number-right.ensures.small c.chunk_number-right.ensures.number in
    c.cmp.ensures ∙ eights_differ _ _ _ _ _ _ left right c.if-left-right.true

pub returns-else-left-right : goal.returns-else-left-right
returns-else-left-right c =
    let a = c.in-Some-Some.ensures.cases in
    let b = c.in-Some-Some.ensures'.cases in
    let left = cut_is c.args.a.now c.in-Some-Some.first_a.now c.in-Some-Some.others_a.now c.chunk_number-left.result a.0 a.1 a.2 c.chunk_number-left.ensures.small c.chunk_number-left.ensures.number in
    let right = cut_is c.args.b.now c.in-Some-Some.first_b.now c.in-Some-Some.others_b.now c.chunk_number-right.result b.0 b.1 b.2 c.chunk_number-right.ensures.small c.chunk_number-right.ensures.number in
    c.cmp-else-left-right.ensures ∙ eights_same _ _ _ _ _ _ left right c.if-left-right.false
