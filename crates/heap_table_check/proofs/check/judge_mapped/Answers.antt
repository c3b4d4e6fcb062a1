use Rattle.std.proofs.Common.{◌∙◌, ap, sym, subst}
use Rattle.heap_page_check.specs.Found.{FoundLists, both_found}
use Rattle.heap_table_check.specs.Found.{heap_found}
use Rattle.heap_table_check.specs.Known.{TellsOfBlocks}
use Rattle.heap_table_check.specs.declared.known.KnownBlocks.{KnownBlocks}
use Rattle.heap_table_check.specs.declared.relations.Hands.{Hands}
use Rattle.heap_table_check.proofs.CaseRules.{listed_first}
use Rattle.heap_table_check.proofs.check.judge_mapped.Goals as goal

pub judge_heap-requires-clause-told : goal.judge_heap-requires-clause-told
judge_heap-requires-clause-told g c names told = c.requires.told names (sym c.in_ok-judge_map.ensures.asked.same ∙ told)

pub judge_heap-requires-clause-known : goal.judge_heap-requires-clause-known
judge_heap-requires-clause-known g c table pages =
    subst (λ (k : KnownBlocks). TellsOfBlocks table pages 0 k) (ap (λ (h : Hands). h.known) (sym c.hands.view_is)) (c.in_ok-hands.ensures.known table pages)

pub returns-clause-found : goal.returns-clause-found
returns-clause-found g c names told =
    let none = ap (λ (h : Hands). h.work.found) c.hands.view_is ∙ c.in_ok-hands.ensures.found in
    let map = listed_first _ _ _ none (c.in_ok-judge_map.ensures.found names told) in
    c.into_judged.ensures.found
    ∙ (c.in_ok-judge_heap.ensures.found names (c.in_ok-judge_map.ensures.asked.same ∙ told)
    ∙ ap (λ (f : FoundLists). both_found f (heap_found c.args.of.case.now names)) map)
