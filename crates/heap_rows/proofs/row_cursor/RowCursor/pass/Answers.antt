use Rattle.std.proofs.Common.{ap, drop, sym, List}
use Rattle.heap_rows.specs.RowCursor.{case_at}
use Rattle.heap_rows.specs.declared.rows.LiveRow.{LiveRow}
use Rattle.heap_rows.proofs.RowHeads.{ahead_next, in_hand_first}
use Rattle.heap_rows.proofs.row_cursor.RowCursor.pass.Goals as goal

pub returns-clause-left : goal.returns-clause-left
returns-clause-left c = λ names are. ahead_next names c.args.self.now (are.next c.requires.at.places.found)

pub returns-clause-here : goal.returns-clause-here
returns-clause-here c = λ names are.
    let cursor = c.args.self.now in
    sym (ap (λ (xs : List LiveRow). drop 1 xs) (in_hand_first (case_at cursor) names cursor.asked cursor.page (are.next c.requires.at.places.found)))
