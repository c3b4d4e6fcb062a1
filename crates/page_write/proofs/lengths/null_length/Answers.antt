use Rattle.std.proofs.Common.{◌∙◌, ◌++◌, false, map, refl, sym, true}
use Rattle.key_orders.specs.Values.{value_shown}
use Rattle.page_write.proofs.LengthLaws.{null_either_is, null_long}
use Rattle.page_write.proofs.lengths.null_length.Goals as goal

pub returns-then-has_null-clause-is : goal.returns-then-has_null-clause-is
returns-then-has_null-clause-is c =
    let vs = map value_shown c.args.first.now in
    let ws = map value_shown c.args.rest.now in
    null_long (vs ++ ws) true (null_either_is vs ws true _ (sym c.has_null.ensures ∙ c.if-has_null.true) refl)

pub returns-then-has_null-2-clause-is : goal.returns-then-has_null-2-clause-is
returns-then-has_null-2-clause-is c =
    let vs = map value_shown c.args.first.now in
    let ws = map value_shown c.args.rest.now in
    null_long (vs ++ ws) true (null_either_is vs ws false true (sym c.has_null.ensures ∙ c.if-has_null.false) (sym c.has_null-2.ensures ∙ c.if-has_null-2.true))

pub returns-clause-is : goal.returns-clause-is
returns-clause-is c =
    let vs = map value_shown c.args.first.now in
    let ws = map value_shown c.args.rest.now in
    null_long (vs ++ ws) false (null_either_is vs ws false false (sym c.has_null.ensures ∙ c.if-has_null.false) (sym c.has_null-2.ensures ∙ c.if-has_null-2.false))
