use Rattle.std.proofs.Common.{false, refl, arith}
use Rattle.std.proofs.lemmas.Bool.{false≢true}
use Rattle.heap_table_check.specs.Files.{chunks_in, toast_in}
use Rattle.heap_rows.specs.RowCursor.{case_at, heap_at}
use Rattle.heap_rows.specs.RowPages.{rows_in_hand}
use Rattle.heap_rows.specs.Rows.{each_from}
use Rattle.heap_rows.proofs.RowSources.{moved}
use Rattle.heap_rows.proofs.QuietHeap.{nothing_in_hand}
use Rattle.heap_rows.proofs.row_cursor.RowCursor.go_to.Goals as goal

pub returns-clause-here : goal.returns-clause-here
unfolding rows_in_hand each_from
returns-clause-here c = λ names. refl

pub returns-clause-told : goal.returns-clause-told
returns-clause-told c = λ names are.
    let cursor = c.args.self.now in
    let page = record cursor.page { count = 0; done = 0; found = false } in
    moved names cursor page c.args.block cursor.taken are (omega arith)
    (nothing_in_hand (case_at cursor) names (toast_in (heap_at cursor)) (chunks_in (heap_at cursor)) page refl)
    (λ yes. absurd (false≢true yes))
