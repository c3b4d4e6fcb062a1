use Rattle.std.proofs.Common.{ℕ, ◌≤◌, refl, sym, subst}
use Rattle.std.specs.Option.{option_copied}
use Rattle.outside.proofs.Asking.{AskedAtMost-more}
use Rattle.heap_table_check.specs.Files.{chunks_in, toast_in}
use Rattle.heap_rows.specs.declared.row_values.ValueSources.{ValueSources}
use Rattle.heap_rows.specs.RowCursor.{heap_at}
use Rattle.heap_rows.proofs.ReadLaws.{value-from}
use Rattle.heap_rows.proofs.RowSources.{ahead_same, at_row_by, columns_readable, done_by, in_hand, moved, next_by, readable, values_are}
use Rattle.heap_rows.proofs.RowSteps.{known_same}
use Rattle.heap_rows.proofs.row_cursor.RowCursor.find_in_hand.Goals as goal

pub find-requires-clause-aligned : goal.find-requires-clause-aligned
find-requires-clause-aligned g c = (columns_readable c.args.self.now.case.now c.column_types.result.now c.sound.ensures c.column_types.ensures).aligned

pub find-requires-clause-readable : goal.find-requires-clause-readable
find-requires-clause-readable g c = λ names told. readable names c.args.self.now _ _ c.toast.ensures c.chunks.ensures (c.requires.told names told)

pub returns-clause-left : goal.returns-clause-left
returns-clause-left g c = λ names told.
    let here = c.requires.told names told in
    let from : ValueSources = record { columns = c.columns.result; toast = c.toast.result; chunks = c.chunks.result; asked = _; starts = _ } in
    ahead_same names c.args.self.now _ refl refl (c.find.ensures.left names told c.args.self.now.case.now (in_hand names c.args.self.now from c.toast.ensures c.chunks.ensures here) (values_are names c.args.self.now from c.toast.ensures c.chunks.ensures c.columns.ensures refl c.deref.ensures.value here))

pub returns-clause-done : goal.returns-clause-done
returns-clause-done g c = done_by g.F.Files.seen c.args.files.now c.args.self.now c.find.new.self c.requires.told c.find.result c.find.ensures.none

pub returns-clause-at : goal.returns-clause-at
returns-clause-at g c = at_row_by c.find.result c.args.self.now _ c.columns.result.now c.args.self.now.asked c.columns.ensures refl refl c.find.ensures.places c.find.ensures.few

pub returns-clause-told : goal.returns-clause-told
returns-clause-told g c = λ names told.
    let here = c.requires.told names told in
    let from : ValueSources = record { columns = c.columns.result; toast = c.toast.result; chunks = c.chunks.result; asked = _; starts = _ } in
    moved names c.args.self.now c.find.new.self c.args.self.now.next c.args.self.now.taken here
    (subst (λ (n : ℕ). n ≤ 2042) (sym c.find.ensures.page.count) here.few)
    (known_same c.args.self.now.case.now names (toast_in (heap_at c.args.self.now)) (chunks_in (heap_at c.args.self.now)) c.args.self.now.page c.find.new.self c.find.ensures.page here.hand)
    (next_by g.F.Files.seen c.args.files.now c.args.self.now c.find.new.self c.requires.told c.find.result from c.toast.ensures c.chunks.ensures c.columns.ensures refl c.deref.ensures.value c.find.ensures.found c.find.ensures.err c.find.ensures.next names told)

pub returns-clause-here : goal.returns-clause-here
returns-clause-here g c = λ names told.
    let here = c.requires.told names told in
    let from : ValueSources = record { columns = c.columns.result; toast = c.toast.result; chunks = c.chunks.result; asked = _; starts = _ } in
    c.find.ensures.left names told c.args.self.now.case.now (in_hand names c.args.self.now from c.toast.ensures c.chunks.ensures here) (values_are names c.args.self.now from c.toast.ensures c.chunks.ensures c.columns.ensures refl c.deref.ensures.value here)

pub returns-clause-asked : goal.returns-clause-asked
returns-clause-asked g c = AskedAtMost-more (value-from c.args.self.now (option_copied c.toast.result) c.columns.result.now c.toast.ensures c.columns.ensures) c.find.ensures.asked
