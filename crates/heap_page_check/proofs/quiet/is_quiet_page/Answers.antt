use Rattle.std.proofs.lemmas.Bool.{OnTrue_at, OnTrue_from}
use Rattle.page_layout.specs.View.{page_bytes}
use Rattle.heap_page_check.specs.Table.{chunks_seen, table_seen}
use Rattle.heap_page_check.proofs.QuietLaws.{quiet_page}
use Rattle.heap_page_check.proofs.quiet.is_quiet_page.Goals as goal

pub returns-then-not-has_other_pointers-clause-nothing : goal.returns-then-not-has_other_pointers-clause-nothing
returns-then-not-has_other_pointers-clause-nothing c = OnTrue_from c.is_quiet.result _ (λ e names.
    quiet_page (table_seen names c.args.table.now) c.args.at.bits c.args.at.block (page_bytes c.args.at.view)
    (λ i first last. OnTrue_at e c.is_quiet.ensures names i first last)
    (c.breaks_bits.ensures c.if-breaks_bits.false)
    (c.pages_without_chains.ensures.rules c.args.at.block) (chunks_seen c.args.table.now.toast))

pub returns-then-not-has_other_pointers-clause-plain : goal.returns-then-not-has_other_pointers-clause-plain
returns-then-not-has_other_pointers-clause-plain c = OnTrue_from c.is_quiet.result _ (λ e names i first last. (OnTrue_at e c.is_quiet.ensures names i first last).plain)
