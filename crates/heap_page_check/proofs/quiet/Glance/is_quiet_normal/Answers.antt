use Rattle.std.proofs.Common.{ap, sym, ◌∙◌}
use Rattle.std.proofs.lemmas.Bool.{OnTrue_at, OnTrue_from}
use Rattle.page_layout.specs.Items.{is_misplaced_heap_item}
use Rattle.page_layout.specs.View.{page_bytes}
use Rattle.heap_page_check.specs.Table.{table_seen, table_with}
use Rattle.heap_page_check.proofs.QuietLaws.{quiet_normal}
use Rattle.heap_page_check.proofs.TupleRules.{whole_tuple}
use Rattle.heap_page_check.proofs.quiet.Glance.is_quiet_normal.Goals as goal

pub returns-clause-quiet : goal.returns-clause-quiet
unfolding table_with
returns-clause-quiet c = OnTrue_from c.is_quiet_tuple.result _ (λ e names.
    let page = page_bytes c.args.self.page in
    let item = c.args.item in
    let tuple = c.piece-tuple.result.now in
    quiet_normal (table_seen names c.args.self.table.now) c.args.self.all_frozen page c.args.i item tuple c.args.lowest.now c.requires.heap c.requires.item c.requires.normal
    (ap (λ upper. is_misplaced_heap_item upper item) (sym c.requires.upper) ∙ sym c.is_misplaced_heap_item.ensures.test ∙ c.if-is_misplaced_heap_item.false)
    c.if-lowest-item.false c.requires.above c.piece-tuple.ensures.length (whole_tuple page c.args.i item tuple c.requires.item c.piece-tuple.ensures.bytes)
    (OnTrue_at e c.is_quiet_tuple.ensures names))
