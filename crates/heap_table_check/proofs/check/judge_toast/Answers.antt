use Rattle.std.proofs.Common.{◌∙◌, ap}
use Rattle.heap_page_check.specs.Table.{chunks_seen, table_with}
use Rattle.heap_table_check.proofs.CaseRules.{from_nothing, no_toast, toast_absent, toast_is_case, toast_of, toast_rules_are, unmapped_is}
use Rattle.heap_table_check.proofs.check.judge_toast.Goals as goal

pub judge_table-requires-clause-at_hand : goal.judge_table-requires-clause-at_hand
judge_table-requires-clause-at_hand g c names told = record {
  relation = (toast_of c.args.case.now names c.in-Some.relation (rw c.in-Some.is at (c.requires.told names told).toast) (rw c.in-Some.is at c.requires.belong.toast)).attached.attached;
  map = tt;
  pages = c.in_ok-hands-in-Some.ensures.ahead names c.in-Some.relation;
  page = tt;
}

pub returns-in-None-clause-found : goal.returns-in-None-clause-found
returns-in-None-clause-found g c names told =
    c.new.ensures ∙ no_toast c.args.case.now names (toast_absent names c.args.case.now.segment_blocks c.args.case.now.toast (rw c.in-None.is at (c.requires.told names told).toast))

pub returns-in_ok-judge_table-in-Some-clause-found : goal.returns-in_ok-judge_table-in-Some-clause-found
unfolding table_with
returns-in_ok-judge_table-in-Some-clause-found g c names told =
    let table = toast_rules_are c.args.case.now names c.toast_rules-table.result c.toast_rules-table.ensures.kind (c.toast_rules-table.ensures.columns ∙ c.new-columns.ensures) c.toast_rules-table.ensures.toast (c.toast_rules-table.ensures.logs ∙ c.requires.logs) in
    let is = toast_of c.args.case.now names c.in-Some.relation (rw c.in-Some.is at (c.requires.told names told).toast) (rw c.in-Some.is at c.requires.belong.toast) in
    c.into_judged.ensures.found ∙ from_nothing _ _ _ _ c.in_ok-hands-in-Some.ensures.found (c.in_ok-judge_table-in-Some.ensures.found names told)
    (toast_is_case c.args.case.now names _ _ _ c.in-Some.relation table (ap chunks_seen c.toast_rules-table.ensures.toast) (unmapped_is names) is)
