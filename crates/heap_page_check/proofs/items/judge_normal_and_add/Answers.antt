use Rattle.page_layout.specs.View.{page_bytes}
use Rattle.heap_page_check.specs.Table.{chunks_seen, table_seen, table_with}
use Rattle.heap_page_check.proofs.ItemRules.{item_added, normal_is, state_added}
use Rattle.heap_page_check.proofs.items.judge_normal_and_add.Goals as goal

pub returns-clause-found : goal.returns-clause-found
unfolding table_with
returns-clause-found g c names told =
    item_added (table_seen names c.args.table.now) (chunks_seen c.args.table.now.toast) c.args.at.block (page_bytes c.args.at.view) c.args.i _ _ _ _ _ _ c.rel.ensures
    (normal_is (table_seen names c.args.table.now) (page_bytes c.args.at.view) c.args.i c.requires.normal) (c.in_ok-verdict.ensures.told names told) (c.in_ok-verdict.ensures.found names told) c.in_ok-add_verdict.ensures

pub returns-clause-states : goal.returns-clause-states
unfolding table_with
returns-clause-states g c names told =
    state_added (table_seen names c.args.table.now) (page_bytes c.args.at.view) c.args.i _ _ _
    (normal_is (table_seen names c.args.table.now) (page_bytes c.args.at.view) c.args.i c.requires.normal) (c.in_ok-verdict.ensures.states names told)
