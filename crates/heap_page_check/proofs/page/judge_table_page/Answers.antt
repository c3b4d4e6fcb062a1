use Rattle.std.proofs.Common.{sym, ◌∙◌}
use Rattle.page_layout.specs.View.{page_bytes}
use Rattle.heap_page_check.specs.Table.{chunks_seen, table_seen, table_with}
use Rattle.heap_page_check.proofs.ItemRules.{header_added}
use Rattle.heap_page_check.proofs.page.judge_table_page.Goals as goal

pub returns-in_ok-add_rule-in-Some-clause-found : goal.returns-in_ok-add_rule-in-Some-clause-found
unfolding table_with
returns-in_ok-add_rule-in-Some-clause-found g c names told =
    header_added (table_seen names c.args.table.now) (chunks_seen c.args.table.now.toast) c.args.at.bits c.args.at.block (page_bytes c.args.at.view) _ c.in-Some.rule _ _ c.rel.ensures (sym c.page_rule.ensures.value ∙ c.in-Some.is) c.in_ok-add_rule-in-Some.ensures
