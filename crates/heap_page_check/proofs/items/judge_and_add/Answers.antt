use Rattle.std.proofs.Common.{refl}
use Rattle.page_layout.specs.View.{page_bytes}
use Rattle.liveness.specs.declared.states.ItemState.TheVariants.{Unused, Dead, Redirect}
use Rattle.heap_page_check.specs.Table.{chunks_seen, table_seen, table_with}
use Rattle.heap_page_check.proofs.ItemRules.{bare_adds_nothing, bare_state, redirect_verdict, verdict_by_flag}
use Rattle.heap_page_check.proofs.Meeting.{other_skipped}
use Rattle.heap_page_check.proofs.items.judge_and_add.Goals as goal

pub returns-in_ok-push_state-in-Unused-clause-after : goal.returns-in_ok-push_state-in-Unused-clause-after
returns-in_ok-push_state-in-Unused-clause-after g c =
    other_skipped _ _ _ _ _ c.requires.first c.item-item.ensures.value c.in-Unused.is refl c.requires.before

pub returns-in_err-push_state-in-Unused-clause-after : goal.returns-in_err-push_state-in-Unused-clause-after
returns-in_err-push_state-in-Unused-clause-after g c =
    other_skipped _ _ _ _ _ c.requires.first c.item-item.ensures.value c.in-Unused.is refl c.requires.before

pub returns-in_ok-push_state-in-Unused-clause-found : goal.returns-in_ok-push_state-in-Unused-clause-found
unfolding table_with
returns-in_ok-push_state-in-Unused-clause-found g c names told =
    bare_adds_nothing (table_seen names c.args.table.now) (chunks_seen c.args.table.now.toast) c.args.at.block (page_bytes c.args.at.view) c.args.i Unused _ refl
    (verdict_by_flag (table_seen names c.args.table.now) (page_bytes c.args.at.view) c.args.i c.item-item.result _ c.item-item.ensures.value c.in-Unused.is)

pub returns-in_ok-push_state-in-Unused-clause-states : goal.returns-in_ok-push_state-in-Unused-clause-states
unfolding table_with
returns-in_ok-push_state-in-Unused-clause-states g c names told =
    bare_state (table_seen names c.args.table.now) (page_bytes c.args.at.view) c.args.i Unused _ _
    (verdict_by_flag (table_seen names c.args.table.now) (page_bytes c.args.at.view) c.args.i c.item-item.result _ c.item-item.ensures.value c.in-Unused.is)
    c.in_ok-push_state-in-Unused.ensures.states

pub returns-in_ok-push_state-in-Redirect-clause-after : goal.returns-in_ok-push_state-in-Redirect-clause-after
returns-in_ok-push_state-in-Redirect-clause-after g c =
    other_skipped _ _ _ _ _ c.requires.first c.item-item.ensures.value c.in-Redirect.is refl c.requires.before

pub returns-in_err-push_state-in-Redirect-clause-after : goal.returns-in_err-push_state-in-Redirect-clause-after
returns-in_err-push_state-in-Redirect-clause-after g c =
    other_skipped _ _ _ _ _ c.requires.first c.item-item.ensures.value c.in-Redirect.is refl c.requires.before

pub returns-in_ok-push_state-in-Redirect-clause-found : goal.returns-in_ok-push_state-in-Redirect-clause-found
unfolding table_with
returns-in_ok-push_state-in-Redirect-clause-found g c names told =
    bare_adds_nothing (table_seen names c.args.table.now) (chunks_seen c.args.table.now.toast) c.args.at.block (page_bytes c.args.at.view) c.args.i (Redirect c.item-item.result.off) _ refl
    (redirect_verdict (table_seen names c.args.table.now) (page_bytes c.args.at.view) c.args.i c.item-item.result c.item-item.ensures.value c.in-Redirect.is)

pub returns-in_ok-push_state-in-Redirect-clause-states : goal.returns-in_ok-push_state-in-Redirect-clause-states
unfolding table_with
returns-in_ok-push_state-in-Redirect-clause-states g c names told =
    bare_state (table_seen names c.args.table.now) (page_bytes c.args.at.view) c.args.i (Redirect c.item-item.result.off) _ _
    (redirect_verdict (table_seen names c.args.table.now) (page_bytes c.args.at.view) c.args.i c.item-item.result c.item-item.ensures.value c.in-Redirect.is)
    c.in_ok-push_state-in-Redirect.ensures.states

pub returns-in_ok-push_state-in-Dead-clause-after : goal.returns-in_ok-push_state-in-Dead-clause-after
returns-in_ok-push_state-in-Dead-clause-after g c =
    other_skipped _ _ _ _ _ c.requires.first c.item-item.ensures.value c.in-Dead.is refl c.requires.before

pub returns-in_err-push_state-in-Dead-clause-after : goal.returns-in_err-push_state-in-Dead-clause-after
returns-in_err-push_state-in-Dead-clause-after g c =
    other_skipped _ _ _ _ _ c.requires.first c.item-item.ensures.value c.in-Dead.is refl c.requires.before

pub returns-in_ok-push_state-in-Dead-clause-found : goal.returns-in_ok-push_state-in-Dead-clause-found
unfolding table_with
returns-in_ok-push_state-in-Dead-clause-found g c names told =
    bare_adds_nothing (table_seen names c.args.table.now) (chunks_seen c.args.table.now.toast) c.args.at.block (page_bytes c.args.at.view) c.args.i Dead _ refl
    (verdict_by_flag (table_seen names c.args.table.now) (page_bytes c.args.at.view) c.args.i c.item-item.result _ c.item-item.ensures.value c.in-Dead.is)

pub returns-in_ok-push_state-in-Dead-clause-states : goal.returns-in_ok-push_state-in-Dead-clause-states
unfolding table_with
returns-in_ok-push_state-in-Dead-clause-states g c names told =
    bare_state (table_seen names c.args.table.now) (page_bytes c.args.at.view) c.args.i Dead _ _
    (verdict_by_flag (table_seen names c.args.table.now) (page_bytes c.args.at.view) c.args.i c.item-item.result _ c.item-item.ensures.value c.in-Dead.is)
    c.in_ok-push_state-in-Dead.ensures.states
