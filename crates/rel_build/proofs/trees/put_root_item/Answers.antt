use Rattle.std.proofs.Common.{◌∙◌, sym, arith}
use Rattle.std.proofs.lemmas.Result.{on_ok_weaker}
use Rattle.rel_build.proofs.Sizes.{root_first, root_later}
use Rattle.rel_build.proofs.trees.put_root_item.Goals as goal

pub returns-then-k-eq0 : goal.returns-then-k-eq0
returns-then-k-eq0 c =
    let zero_is = c.if-k-eq0.true in
    on_ok_weaker c.put_pivot_tuple.result (λ is. is ∙ sym (root_first c.args.key c.args.rows.now c.args.k (omega (arith, zero_is)))) c.put_pivot_tuple.ensures

pub returns : goal.returns
returns c =
    let later = c.if-k-eq0.false in
    on_ok_weaker c.put_separator_before.result (λ is. is ∙ sym (root_later c.args.key c.args.rows.now c.args.k (omega (arith, later)))) c.put_separator_before.ensures
