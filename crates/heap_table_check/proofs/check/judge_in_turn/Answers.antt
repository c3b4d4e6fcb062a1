use Rattle.std.proofs.Common.{◌∙◌, ap, sym}
use Rattle.heap_page_check.specs.Found.{FoundLists}
use Rattle.heap_table_check.proofs.CaseRules.{parts_are}
use Rattle.heap_table_check.proofs.check.judge_in_turn.Goals as goal

pub judge_mapped-requires-clause-told : goal.judge_mapped-requires-clause-told
judge_mapped-requires-clause-told g c names told = c.requires.told names (sym c.in_ok-toast.ensures.asked.same ∙ told)

pub judge_mapped-requires-clause-chunks : goal.judge_mapped-requires-clause-chunks
judge_mapped-requires-clause-chunks g c names told =
    ap (λ (f : FoundLists). f.chunks) (c.toast.view_is ∙ c.in_ok-toast.ensures.found names (sym c.in_ok-toast.ensures.asked.same ∙ told))

pub returns-clause-found : goal.returns-clause-found
returns-clause-found g c names told =
    let rest = c.in_ok-judged.ensures.found names (c.in_ok-toast.ensures.asked.same ∙ told) in
    c.in_ok-add_toast.ensures ∙ parts_are c.args.case.now names _ _ rest (c.in_ok-toast.ensures.found names told)
