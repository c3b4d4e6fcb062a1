use Rattle.std.proofs.Common.{◌∙◌, ◌++◌, ◌-◌, List, ap}
use Rattle.heap_table_check.specs.Case.{heap_blocks}
use Rattle.heap_rows.specs.declared.rows.LiveRow.{LiveRow}
use Rattle.heap_rows.specs.RowCursor.{rows_ahead, rows_unread}
use Rattle.heap_rows.specs.Rows.{block_rows, each_from}
use Rattle.heap_rows.proofs.rows.LiveRows.seek_block.Goals as goal

pub returns-clause-left : goal.returns-clause-left
unfolding rows_ahead rows_unread
returns-clause-left c = λ names.
    let cursor = c.go_to.new.self in
    ap (λ (rows : List LiveRow). rows ++ rows_unread names cursor) (c.go_to.ensures.here names)
    ∙ (λ i. each_from (block_rows (c.go_to.ensures.same.case i) names) (c.go_to.ensures.next i) (heap_blocks (c.go_to.ensures.same.case i) names - c.go_to.ensures.next i))

pub returns-clause-told : goal.returns-clause-told
returns-clause-told c = λ names are. record {
  cursor = c.go_to.ensures.told names are.cursor;
  all = c.go_to.ensures.same.asked ∙ are.all;
}
