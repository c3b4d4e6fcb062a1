use Rattle.std.proofs.Common.{◌∙◌, ◌≤◌, ap, arith}
use Rattle.std.proofs.lemmas.List.{length-map}
use Rattle.std.specs.Option.{option_copied}
use Rattle.case_file.specs.declared.case.Column.{Column}
use Rattle.heap_page_check.specs.Found.{both_found}
use Rattle.heap_table_check.specs.Found.{chunks_given}
use Rattle.heap_page_check.specs.Table.{chunks_seen, table_with, toast_oid_seen}
use Rattle.heap_table_check.proofs.CaseRules.{bits_are, chunks_are_given, heap_is_case, heap_rules_are, map_is_attached}
use Rattle.heap_table_check.proofs.ColumnLaws.{columns_aligned}
use Rattle.heap_table_check.proofs.KnownLaws.{of_heap}
use Rattle.heap_table_check.proofs.check.judge_heap.Goals as goal

pub new-columns-requires : goal.new-columns-requires
new-columns-requires g c = rw c.column_types.ensures (columns_aligned _ c.sound.ensures.columns)

pub judge_table-requires-clause-columns : goal.judge_table-requires-clause-columns
judge_table-requires-clause-columns g c =
    let is = c.heap_rules-table.ensures.columns ∙ (c.new-columns.ensures ∙ c.column_types.ensures) in
    rw is (record { few = omega (arith, c.sound.ensures.column_count, length-map c.args.of.case.now.columns (λ (column : Column). column.ctype)); aligned = columns_aligned _ c.sound.ensures.columns })

pub judge_table-requires-clause-at_hand : goal.judge_table-requires-clause-at_hand
judge_table-requires-clause-at_hand g c names told =
    let files = c.requires.told names told in
    record {
      relation = files.heap.attached;
      map = rw c.as_ref.ensures.value (map_is_attached names _ _ _ c.args.of.at.now.map files.map);
      pages = c.requires.pages names c.args.of.at.now.heap;
      page = rw c.as_ref.ensures.value (c.requires.map names told);
    }

pub returns-clause-found : goal.returns-clause-found
unfolding table_with
returns-clause-found g c names told =
    let case = c.args.of.case.now in
    let at = c.args.of.at.now in
    let some : 1 ≤ case.segment_blocks = omega (arith, c.sound.ensures.segment_blocks) in
    let files = c.requires.told names told in
    let table = heap_rules_are case names c.heap_rules-table.result c.heap_rules-table.ensures.kind (c.heap_rules-table.ensures.columns ∙ (c.new-columns.ensures ∙ c.column_types.ensures)) (ap toast_oid_seen c.heap_rules-table.ensures.toast ∙ c.toast_table.ensures.oid) (c.heap_rules-table.ensures.logs ∙ c.requires.logs) in
    let chunks = ap chunks_seen c.heap_rules-table.ensures.toast ∙ (c.toast_table.ensures.chunks ∙ (ap (chunks_given case.toast) (c.requires.chunks names told) ∙ chunks_are_given case names)) in
    let bits = bits_are case names (option_copied c.as_ref.result) some (rw (← c.as_ref.ensures.value) at files.map) (rw (← c.as_ref.ensures.value) at c.requires.belong.map) in
    c.in_ok-judge_table.ensures.found names told
    ∙ ap (both_found c.args.hands.now.work.found) (heap_is_case case names _ _ _ at.heap table chunks bits c.requires.belong.heap files.heap)

pub returns-clause-known : goal.returns-clause-known
unfolding table_with
returns-clause-known g c names told =
    let case = c.args.of.case.now in
    let table = heap_rules_are case names c.heap_rules-table.result c.heap_rules-table.ensures.kind (c.heap_rules-table.ensures.columns ∙ (c.new-columns.ensures ∙ c.column_types.ensures)) (ap toast_oid_seen c.heap_rules-table.ensures.toast ∙ c.toast_table.ensures.oid) (c.heap_rules-table.ensures.logs ∙ c.requires.logs) in
    of_heap case names _ c.args.of.at.now.heap c.judge_table.new.hands.known table c.requires.belong.heap (c.requires.told names told).heap
    (c.in_ok-judge_table.ensures.known names told (c.requires.known _ _))
