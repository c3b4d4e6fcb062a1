use Rattle.std.proofs.Common.{◌+◌, refl, ap, sym, subst, ◌∙◌}
use Rattle.std.proofs.lemmas.Bool.{false≢true}
use Rattle.heap_page_check.specs.Quiet.{IsPlain}
use Rattle.heap_page_check.specs.Table.{Table, toast_oid_seen}
use Rattle.heap_table_check.specs.Case.{table_of}
use Rattle.heap_table_check.specs.Files.{chunks_in, heap_in, toast_in}
use Rattle.heap_table_check.specs.TableFiles.{pages_in}
use Rattle.heap_table_check.proofs.CaseRules.{heap_rules_are}
use Rattle.heap_rows.specs.RowPages.{AreKnown}
use Rattle.heap_rows.specs.RowCursor.{heap_at}
use Rattle.heap_rows.specs.declared.row_cursor.RowCursor.{RowCursor}
use Rattle.heap_rows.proofs.RowSources.{columns_readable, moved}
use Rattle.heap_rows.proofs.QuietHeap.{heap_count, loaded, page_is, nothing_in_hand, unread_next, unread_same}
use Rattle.heap_rows.proofs.row_cursor.RowCursor.take_next.Goals as goal

pub new-columns-requires : goal.new-columns-requires
new-columns-requires g c = (columns_readable c.args.self.now.case.now c.column_types.result.now c.sound.ensures c.column_types.ensures).aligned

pub take-requires-clause-plain : goal.take-requires-clause-plain
take-requires-clause-plain g c = λ names told known.
    let here = c.requires.told names told in
    let case = c.args.self.now.case.now in
    let rules = c.heap_rules-table.ensures in
    let table = heap_rules_are case names c.heap_rules-table.result rules.kind (rules.columns ∙ c.new-columns.ensures ∙ c.column_types.ensures) (ap toast_oid_seen rules.toast ∙ c.toast_table-toast.ensures.oid) (rules.logs ∙ here.logs) in
    let heap = heap_in (heap_at c.args.self.now) in
    let next = c.args.self.now.next in
    subst (λ (t : Table). IsPlain t (pages_in names heap next)) (sym table)
    (subst (IsPlain (table_of case names)) (sym (page_is case names heap next here.belong.heap)) (here.heap.plain next known))

pub returns-in_err-take-clause-left : goal.returns-in_err-take-clause-left
returns-in_err-take-clause-left g c = λ names told.
    let new : RowCursor = record { case = c.args.self.now.case; heap = c.args.self.now.heap; asked = c.args.self.now.asked; starts = c.args.self.now.starts; logs = c.args.self.now.logs; page = c.take.new.self; next = c.args.self.now.next; taken = c.saturating_add-self.result } in
    unread_same names c.args.self.now new (c.requires.done names told) refl refl c.in_err-take.ensures.empty

pub returns-in_err-take-clause-told : goal.returns-in_err-take-clause-told
returns-in_err-take-clause-told g c = λ names told.
    moved names c.args.self.now c.take.new.self c.args.self.now.next _ (c.requires.told names told) c.take.ensures.few
    (nothing_in_hand c.args.self.now.case.now names (toast_in (heap_at c.args.self.now)) (chunks_in (heap_at c.args.self.now)) c.take.new.self c.in_err-take.ensures.empty)
    (λ yes. absurd (false≢true (sym c.take.ensures.found ∙ yes)))

pub returns-clause-left : goal.returns-clause-left
returns-clause-left g c = λ names told.
    let here = c.requires.told names told in
    let case = c.args.self.now.case.now in
    let heap = heap_at c.args.self.now in
    let rules = c.heap_rules-table.ensures in
    let below = heap_count case names c.args.self.now.next (heap_in heap) here.heap.files.heap c.requires.inside in
    let bytes = c.in_ok-take.ensures.bytes names told ∙ page_is case names (heap_in heap) c.args.self.now.next here.belong.heap in
    let known = subst (λ (t : Table). AreKnown t c.args.self.now.next c.take.new.self) (heap_rules_are case names c.heap_rules-table.result rules.kind (rules.columns ∙ c.new-columns.ensures ∙ c.column_types.ensures) (ap toast_oid_seen rules.toast ∙ c.toast_table-toast.ensures.oid) (rules.logs ∙ here.logs)) (c.in_ok-take.ensures.known names told) in
    let load = loaded case names (toast_in heap) (chunks_in heap) c.take.new.self c.args.self.now.next here.quiet below here.belong.toast here.heap.chunks c.in_ok-take.ensures.block c.in_ok-take.ensures.done bytes known in
    let new : RowCursor = record { case = c.args.self.now.case; heap = c.args.self.now.heap; asked = c.args.self.now.asked; starts = c.args.self.now.starts; logs = c.args.self.now.logs; page = c.take.new.self; next = c.args.self.now.next + 1; taken = c.saturating_add-self.result } in
    unread_next names c.args.self.now new (c.requires.done names told) refl refl below load.rows

pub returns-clause-told : goal.returns-clause-told
returns-clause-told g c = λ names told.
    let here = c.requires.told names told in
    let case = c.args.self.now.case.now in
    let heap = heap_at c.args.self.now in
    let rules = c.heap_rules-table.ensures in
    let below = heap_count case names c.args.self.now.next (heap_in heap) here.heap.files.heap c.requires.inside in
    let bytes = c.in_ok-take.ensures.bytes names told ∙ page_is case names (heap_in heap) c.args.self.now.next here.belong.heap in
    let known = subst (λ (t : Table). AreKnown t c.args.self.now.next c.take.new.self) (heap_rules_are case names c.heap_rules-table.result rules.kind (rules.columns ∙ c.new-columns.ensures ∙ c.column_types.ensures) (ap toast_oid_seen rules.toast ∙ c.toast_table-toast.ensures.oid) (rules.logs ∙ here.logs)) (c.in_ok-take.ensures.known names told) in
    let load = loaded case names (toast_in heap) (chunks_in heap) c.take.new.self c.args.self.now.next here.quiet below here.belong.toast here.heap.chunks c.in_ok-take.ensures.block c.in_ok-take.ensures.done bytes known in
    moved names c.args.self.now c.take.new.self (c.args.self.now.next + 1) _ here c.take.ensures.few load.hand (λ yes. absurd (false≢true (sym c.take.ensures.found ∙ yes)))

pub returns-clause-here : goal.returns-clause-here
returns-clause-here g c = λ names told.
    let here = c.requires.told names told in
    let case = c.args.self.now.case.now in
    let heap = heap_at c.args.self.now in
    let rules = c.heap_rules-table.ensures in
    let below = heap_count case names c.args.self.now.next (heap_in heap) here.heap.files.heap c.requires.inside in
    let bytes = c.in_ok-take.ensures.bytes names told ∙ page_is case names (heap_in heap) c.args.self.now.next here.belong.heap in
    let known = subst (λ (t : Table). AreKnown t c.args.self.now.next c.take.new.self) (heap_rules_are case names c.heap_rules-table.result rules.kind (rules.columns ∙ c.new-columns.ensures ∙ c.column_types.ensures) (ap toast_oid_seen rules.toast ∙ c.toast_table-toast.ensures.oid) (rules.logs ∙ here.logs)) (c.in_ok-take.ensures.known names told) in
    let load = loaded case names (toast_in heap) (chunks_in heap) c.take.new.self c.args.self.now.next here.quiet below here.belong.toast here.heap.chunks c.in_ok-take.ensures.block c.in_ok-take.ensures.done bytes known in
    load.rows

pub returns-clause-count : goal.returns-clause-count
returns-clause-count g c = λ names told.
    let here = c.requires.told names told in
    let case = c.args.self.now.case.now in
    let heap = heap_at c.args.self.now in
    let rules = c.heap_rules-table.ensures in
    let below = heap_count case names c.args.self.now.next (heap_in heap) here.heap.files.heap c.requires.inside in
    let bytes = c.in_ok-take.ensures.bytes names told ∙ page_is case names (heap_in heap) c.args.self.now.next here.belong.heap in
    let known = subst (λ (t : Table). AreKnown t c.args.self.now.next c.take.new.self) (heap_rules_are case names c.heap_rules-table.result rules.kind (rules.columns ∙ c.new-columns.ensures ∙ c.column_types.ensures) (ap toast_oid_seen rules.toast ∙ c.toast_table-toast.ensures.oid) (rules.logs ∙ here.logs)) (c.in_ok-take.ensures.known names told) in
    let load = loaded case names (toast_in heap) (chunks_in heap) c.take.new.self c.args.self.now.next here.quiet below here.belong.toast here.heap.chunks c.in_ok-take.ensures.block c.in_ok-take.ensures.done bytes known in
    load.count
