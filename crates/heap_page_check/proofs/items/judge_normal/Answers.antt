use Rattle.std.proofs.Common.{◌∙◌, rules, ap}
use Rattle.std.proofs.lemmas.Result.{IfOk-weaker}
use Rattle.page_layout.specs.Page.{header_of}
use Rattle.page_layout.specs.View.{page_bytes}
use Rattle.page_layout.specs.declared.rules.Rule.TheVariants.{H1, H2}
use Rattle.heap_tuples.specs.Places.{tuple_at}
use Rattle.heap_tuples.specs.Tuples.{attributes_in}
use Rattle.heap_page_check.specs.Storage.{overlaps_lower_item}
use Rattle.heap_page_check.specs.Table.{table_seen}
use Rattle.heap_page_check.specs.Verdicts.{normal_verdict}
use Rattle.heap_page_check.proofs.Meeting.{item_test, misplaced_has_none, skipped_at}
use Rattle.heap_page_check.proofs.TupleRules.{broken_has_no_state, broken_leaves_nothing, left_as, misplaced_verdict, overlapping_verdict, placed_verdict, state_as, whole_tuple}
use Rattle.heap_page_check.proofs.items.judge_normal.Goals as goal

pub returns-then-is_misplaced_heap_item-clause-after : goal.returns-then-is_misplaced_heap_item-clause-after
returns-then-is_misplaced_heap_item-clause-after g c =
    skipped_at _ _ _ c.requires.first
    (misplaced_has_none _ _ (item_test _ _ _ _ _ c.header.ensures c.item-item.ensures.value c.is_misplaced_heap_item.ensures.test ∙ c.if-is_misplaced_heap_item.true)) c.requires.before

pub returns-then-is_misplaced_heap_item-clause-told : goal.returns-then-is_misplaced_heap_item-clause-told
unfolding normal_verdict header_of
returns-then-is_misplaced_heap_item-clause-told g c = search rules

pub returns-then-is_misplaced_heap_item-clause-found : goal.returns-then-is_misplaced_heap_item-clause-found
returns-then-is_misplaced_heap_item-clause-found g c names told =
    broken_leaves_nothing _ _ _ _ _ (attributes_in c.args.table.now.columns.now (tuple_at (page_bytes c.args.at.view) c.args.i)) H1 _ _
    (misplaced_verdict (table_seen names c.args.table.now) (page_bytes c.args.at.view) c.args.i
    (item_test _ _ _ _ _ c.header.ensures c.item-item.ensures.value c.is_misplaced_heap_item.ensures.test ∙ c.if-is_misplaced_heap_item.true))

pub returns-then-is_misplaced_heap_item-clause-states : goal.returns-then-is_misplaced_heap_item-clause-states
returns-then-is_misplaced_heap_item-clause-states g c names told =
    broken_has_no_state H1 _ _
    (misplaced_verdict (table_seen names c.args.table.now) (page_bytes c.args.at.view) c.args.i
    (item_test _ _ _ _ _ c.header.ensures c.item-item.ensures.value c.is_misplaced_heap_item.ensures.test ∙ c.if-is_misplaced_heap_item.true))

pub add-requires-clause-storage : goal.add-requires-clause-storage
unfolding header_of
add-requires-clause-storage g c = search rules

pub returns-then-add-clause-told : goal.returns-then-add-clause-told
unfolding normal_verdict overlaps_lower_item header_of
returns-then-add-clause-told g c = search rules

pub returns-then-add-clause-found : goal.returns-then-add-clause-found
returns-then-add-clause-found g c names told =
    let placed = item_test _ _ _ _ _ c.header.ensures c.item-item.ensures.value c.is_misplaced_heap_item.ensures.test ∙ c.if-is_misplaced_heap_item.false in
    broken_leaves_nothing _ _ _ _ _ (attributes_in c.args.table.now.columns.now (tuple_at (page_bytes c.args.at.view) c.args.i)) H2 _ _
    (overlapping_verdict (table_seen names c.args.table.now) (page_bytes c.args.at.view) c.args.i c.add.result placed c.requires.normal c.add.ensures.meets c.if-add.true)

pub returns-then-add-clause-states : goal.returns-then-add-clause-states
returns-then-add-clause-states g c names told =
    let placed = item_test _ _ _ _ _ c.header.ensures c.item-item.ensures.value c.is_misplaced_heap_item.ensures.test ∙ c.if-is_misplaced_heap_item.false in
    broken_has_no_state H2 _ _
    (overlapping_verdict (table_seen names c.args.table.now) (page_bytes c.args.at.view) c.args.i c.add.result placed c.requires.normal c.add.ensures.meets c.if-add.true)

pub returns-clause-told : goal.returns-clause-told
unfolding normal_verdict overlaps_lower_item header_of
returns-clause-told g c = search rules

pub returns-clause-found : goal.returns-clause-found
returns-clause-found g c =
    let placed = item_test _ _ _ _ _ c.header.ensures c.item-item.ensures.value c.is_misplaced_heap_item.ensures.test ∙ c.if-is_misplaced_heap_item.false in
    let whole = whole_tuple (page_bytes c.args.at.view) c.args.i c.item-item.result c.piece-tuple.result.now c.item-item.ensures.value c.piece-tuple.ensures.bytes in
    IfOk-weaker c.judge_tuple.result _ _
    (λ verdict found names told.
    left_as _ _ _ _ _ (attributes_in c.args.table.now.columns.now c.piece-tuple.result.now) (attributes_in c.args.table.now.columns.now (tuple_at (page_bytes c.args.at.view) c.args.i)) _ _ _ _
    (ap (attributes_in c.args.table.now.columns.now) whole)
    (placed_verdict (table_seen names c.args.table.now) (page_bytes c.args.at.view) c.args.i c.add.result c.item-item.result c.piece-tuple.result.now placed c.requires.normal c.add.ensures.meets c.if-add.false c.item-item.ensures.value
    c.piece-tuple.ensures.length whole) (found names told))
    c.judge_tuple.ensures.found

pub returns-clause-states : goal.returns-clause-states
returns-clause-states g c =
    let placed = item_test _ _ _ _ _ c.header.ensures c.item-item.ensures.value c.is_misplaced_heap_item.ensures.test ∙ c.if-is_misplaced_heap_item.false in
    let whole = whole_tuple (page_bytes c.args.at.view) c.args.i c.item-item.result c.piece-tuple.result.now c.item-item.ensures.value c.piece-tuple.ensures.bytes in
    IfOk-weaker c.judge_tuple.result _ _
    (λ verdict states names told.
    state_as _ _ _ _
    (placed_verdict (table_seen names c.args.table.now) (page_bytes c.args.at.view) c.args.i c.add.result c.item-item.result c.piece-tuple.result.now placed c.requires.normal c.add.ensures.meets c.if-add.false c.item-item.ensures.value
    c.piece-tuple.ensures.length whole) (states names told))
    c.judge_tuple.ensures.states
