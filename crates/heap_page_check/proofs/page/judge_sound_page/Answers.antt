use Rattle.std.proofs.Common.{◌∙◌, ap, sym}
use Rattle.page_layout.specs.View.{page_bytes}
use Rattle.heap_page_check.specs.Found.{FoundLists, both_found, items_found}
use Rattle.heap_page_check.specs.Table.{chunks_seen, table_seen, table_with}
use Rattle.heap_page_check.proofs.ItemRules.{states_are}
use Rattle.heap_page_check.proofs.JointRules.{joint_added}
use Rattle.heap_page_check.proofs.PlainLaws.{plain_by_counts}
use Rattle.heap_page_check.proofs.page.judge_sound_page.Goals as goal

pub judge_items-requires-clause-free : goal.judge_items-requires-clause-free
judge_items-requires-clause-free g c = c.clear.ensures.cells _

pub returns-then-eq-clause-found : goal.returns-then-eq-clause-found
unfolding table_with
returns-then-eq-clause-found g c names told =
    let states = states_are (table_seen names c.args.table.now) (page_bytes c.args.at.view) _ _ c.clear.ensures.states (c.in_ok-judge_items.ensures.states names told) in
    joint_added c.args.work.now.found (items_found (table_seen names c.args.table.now) (chunks_seen c.args.table.now.toast) c.args.at.block (page_bytes c.args.at.view)) c.judge_items.new.work.found c.judge_joint.new.work.found _ c.counts-before.result c.counts.result
    c.counts-before.ensures c.counts.ensures (c.in_ok-judge_items.ensures.found names told ∙ ap (λ (f : FoundLists). both_found f (items_found (table_seen names c.args.table.now) (chunks_seen c.args.table.now.toast) c.args.at.block (page_bytes c.args.at.view))) c.clear.ensures.found) c.if-eq.ensures (rw (states, c.rel.ensures) at c.in_ok-judge_joint.ensures)

pub returns-then-eq-clause-plain : goal.returns-then-eq-clause-plain
returns-then-eq-clause-plain g c names told all =
    let found = items_found (table_seen names c.args.table.now) (chunks_seen c.args.table.now.toast) c.args.at.block (page_bytes c.args.at.view) in
    plain_by_counts (table_seen names c.args.table.now) (chunks_seen c.args.table.now.toast) c.args.at.block (page_bytes c.args.at.view) c.args.work.now.found c.judge_items.new.work.found c.counts-before.result c.counts.result
    c.counts-before.ensures c.counts.ensures (c.in_ok-judge_items.ensures.found names told ∙ ap (λ (f : FoundLists). both_found f found) c.clear.ensures.found) c.if-eq.ensures
    c.deref.result.now
    (c.deref.ensures.value ∙ states_are (table_seen names c.args.table.now) (page_bytes c.args.at.view) _ _ c.clear.ensures.states (c.in_ok-judge_items.ensures.states names told))
    (sym c.are_plain-plain.ensures ∙ all)
