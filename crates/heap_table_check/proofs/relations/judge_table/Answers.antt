use Rattle.std.proofs.lemmas.Result.{on_ok_weaker}
use Rattle.heap_page_check.specs.Table.{table_seen, table_with}
use Rattle.heap_table_check.proofs.Relating.{table_added}
use Rattle.heap_table_check.proofs.relations.judge_table.Goals as goal

pub returns-clause-found : goal.returns-clause-found
unfolding table_with
returns-clause-found g c =
    on_ok_weaker c.judge_blocks.result (λ now names told.
    table_added (table_seen names c.args.table.now) _ _ names _ _ _ _ c.args.hands.now.work.found _ _
    (rw c.long_segment.ensures at c.in_ok-add_segment.ensures) (now names told)) c.judge_blocks.ensures.found
