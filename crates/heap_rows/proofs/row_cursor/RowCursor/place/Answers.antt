use Rattle.std.proofs.Common.{◌+◌, refl, sym, subst, arith}
use Rattle.std.specs.Prelude.{Some}
use Rattle.heap_page_check.specs.Found.{states_of}
use Rattle.heap_table_check.specs.Case.{table_of}
use Rattle.heap_rows.specs.RowCursor.{IsPlaceOfFirst, case_at}
use Rattle.heap_rows.specs.Rows.{row_at}
use Rattle.heap_rows.proofs.RowHeads.{ahead_first, in_hand_first}
use Rattle.heap_rows.proofs.row_cursor.RowCursor.place.Goals as goal

pub returns-clause-first : goal.returns-clause-first
unfolding row_at
returns-clause-first c = λ names are.
    let page = c.args.self.now.page in
    let next = are.next c.requires.at.places.found in
    let inside = next.inside in
    let known = are.hand (page.done + 1) (omega arith) (omega (arith, inside)) in
    let states = states_of (table_of (case_at c.args.self.now) names) page.bytes in
    let count = known.tells.count in
    let root = c.root_of.ensures.root page.block states (omega (arith, inside, count)) known.tells.roots in
    subst (IsPlaceOfFirst (Some _)) (sym (ahead_first names c.args.self.now next)) (refl, λ i. record { block = page.block; item = root i })

pub returns-clause-here : goal.returns-clause-here
unfolding row_at
returns-clause-here c = λ names are.
    let page = c.args.self.now.page in
    let next = are.next c.requires.at.places.found in
    let inside = next.inside in
    let known = are.hand (page.done + 1) (omega arith) (omega (arith, inside)) in
    let states = states_of (table_of (case_at c.args.self.now) names) page.bytes in
    let count = known.tells.count in
    let root = c.root_of.ensures.root page.block states (omega (arith, inside, count)) known.tells.roots in
    subst (IsPlaceOfFirst (Some _)) (sym (in_hand_first (case_at c.args.self.now) names c.args.self.now.asked page next)) (refl, λ i. record { block = page.block; item = root i })
