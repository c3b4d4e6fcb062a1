use Rattle.std.proofs.Common.{◌≤◌, false, refl, arith}
use Rattle.heap_rows.specs.RowCursor.{case_at}
use Rattle.heap_rows.specs.declared.row_page.RowPage.{RowPage}
use Rattle.heap_rows.proofs.PageRows.{ahead_past}
use Rattle.heap_rows.proofs.RowSteps.{in_hand_done}
use Rattle.heap_rows.proofs.row_cursor.RowCursor.pass_page.Goals as goal

pub returns-clause-here : goal.returns-clause-here
returns-clause-here c = λ names.
    let cursor = c.args.self.now in
    let page : RowPage = record cursor.page { done = cursor.page.count; found = false } in
    let all : cursor.page.count ≤ cursor.page.count = omega arith in
    in_hand_done (case_at cursor) names page all

pub returns-clause-left : goal.returns-clause-left
returns-clause-left c = λ names are.
    let cursor = c.args.self.now in
    let page : RowPage = record cursor.page { done = cursor.page.count; found = false } in
    let all : cursor.page.count ≤ cursor.page.count = omega arith in
    ahead_past names cursor _ refl refl (in_hand_done (case_at cursor) names page all)
