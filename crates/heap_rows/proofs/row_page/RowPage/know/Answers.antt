use Rattle.std.proofs.Common.{◌≡◌, ◌∙◌, ℕ, List, length, ap, refl, sym, subst, arith}
use Rattle.page_layout.specs.Page.{count_of}
use Rattle.page_layout.specs.View.{page_bytes}
use Rattle.liveness.specs.LogFiles.{log_files_of, logs_of}
use Rattle.liveness.specs.declared.states.ItemState.{ItemState}
use Rattle.heap_page_check.specs.States.{AreStatesOf}
use Rattle.heap_page_check.specs.Table.{logs_in, table_seen, table_with}
use Rattle.heap_rows.specs.Roots.{AreRoots}
use Rattle.heap_rows.specs.Places.{AreInPlace}
use Rattle.heap_rows.proofs.RowStates.{all_in_place, plain_tells, states_tell}
use Rattle.heap_rows.proofs.row_page.RowPage.know.Goals as goal

pub returns-then-plain-clause-known : goal.returns-then-plain-clause-known
returns-then-plain-clause-known g c = λ names told pass.
    plain_tells (table_seen names c.args.table.now) c.args.self.now.block c.args.self.now.bytes pass
    (c.requires.plain names told c.if-plain.true) _ refl c.if-plain.true (c.item_count-count.ensures.value ∙ ap count_of c.new-page.ensures) c.clear.ensures

pub find-requires : goal.find-requires
find-requires g c =
    let count = c.in_ok-find_states.ensures.count in
    let same : length c.deref.result.now ≡ length c.find_states.new.states.items = ap (λ (s : List ItemState). length s) c.deref.ensures.value in
    omega (arith, same, count, c.item_count-count.ensures.value, c.item_count-count.ensures.limit)

pub returns-clause-known : goal.returns-clause-known
unfolding table_with
returns-clause-known g c = λ names told pass.
    let table = table_seen names c.args.table.now in
    let bytes = c.args.self.now.bytes in
    let is : page_bytes c.new-page.result ≡ bytes = c.new-page.ensures in
    let placed = subst AreInPlace (sym is) (all_in_place table c.args.self.now.block bytes pass) in
    let same : logs_in table ≡ logs_of names (log_files_of c.args.table.now.logs) = refl in
    let are = subst (λ (p : List ℕ). AreStatesOf table p c.find_states.new.states.items) is (c.in_ok-find_states.ensures.told names told table same placed) in
    let roots = subst (λ (s : List ItemState). AreRoots c.args.self.now.block s c.find.new.self) c.deref.ensures.value c.in_ok-find.ensures in
    states_tell table c.args.self.now.block bytes pass _ c.if-plain.false (c.item_count-count.ensures.value ∙ ap count_of is) are roots
