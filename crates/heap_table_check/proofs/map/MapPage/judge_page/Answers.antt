use Rattle.heap_table_check.proofs.MapRules.{page_found}
use Rattle.heap_table_check.proofs.map.MapPage.judge_page.Goals as goal

pub returns-clause-found : goal.returns-clause-found
returns-clause-found g c names told =
    rw (page_found names _ _ _ _ _ (c.in_ok-take.ensures.bytes names told) c.rule.ensures) at c.in_ok-add_rule.ensures
