use Rattle.std.proofs.Common.{◌∙◌, ◌++◌, sym, arith}
use Rattle.join_row_keys.specs.Rows.{columns_in}
use Rattle.heap_indexed.proofs.Columns.{columns-next}
use Rattle.heap_indexed.proofs.check_all.columns_of_all.Goals as goal

pub loop-j-preserved : goal.loop-j-preserved
loop-j-preserved c =
    c.in_ok-push_columns.ensures
    ∙ (λ i. c.loop-j.invariant i ++ columns_in (c.columns.ensures.lists i))
    ∙ sym (columns-next c.args.trees.now c.loop-j.j c.index-trees-j.result c.index-trees-j.is (omega arith))
