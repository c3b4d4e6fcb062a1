use Rattle.std.proofs.lemmas.Result.{IfOk-weaker}
use Rattle.page_layout.specs.View.{page_bytes}
use Rattle.liveness.specs.LogFiles.{log_files_of, logs_of}
use Rattle.heap_page_check.specs.States.{dead, unused}
use Rattle.heap_rows.proofs.StateLaws.{flag_at, normal_is_state, redirect_is_state}
use Rattle.heap_rows.proofs.states.state_of.Goals as goal

pub returns-in-Normal-clause-told : goal.returns-in-Normal-clause-told
returns-in-Normal-clause-told g c =
    IfOk-weaker c.normal_state.result _ _ (λ state is names told table same placed.
    normal_is_state table (page_bytes c.args.page) c.args.item c.item-pointer.result (logs_of names (log_files_of c.args.logs.now)) state c.item-pointer.ensures.value c.in-Normal.is same placed c.requires.first c.requires.last (is names told))
    c.normal_state.ensures.told

pub returns-in-Unused-clause-told : goal.returns-in-Unused-clause-told
returns-in-Unused-clause-told g c = λ names told table same placed.
    unused (flag_at (page_bytes c.args.page) c.args.item c.item-pointer.result _ c.item-pointer.ensures.value c.in-Unused.is)

pub returns-in-Redirect-clause-told : goal.returns-in-Redirect-clause-told
returns-in-Redirect-clause-told g c = λ names told table same placed.
    redirect_is_state table (page_bytes c.args.page) c.args.item c.item-pointer.result c.item-pointer.ensures.value c.in-Redirect.is

pub returns-in-Dead-clause-told : goal.returns-in-Dead-clause-told
returns-in-Dead-clause-told g c = λ names told table same placed.
    dead (flag_at (page_bytes c.args.page) c.args.item c.item-pointer.result _ c.item-pointer.ensures.value c.in-Dead.is)
