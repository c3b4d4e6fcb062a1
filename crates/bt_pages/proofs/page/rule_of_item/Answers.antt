use Rattle.std.proofs.Common.{◌∙◌, sym}
use Rattle.page_layout.specs.View.{page_bytes}
use Rattle.bt_pages.specs.Trees.{tree_seen}
use Rattle.bt_pages.proofs.Lists.{item_rule-none, item_rule-some}
use Rattle.bt_pages.proofs.page.rule_of_item.Goals as goal

pub returns-in-Some-clause-told : goal.returns-in-Some-clause-told
returns-in-Some-clause-told g c names told = item_rule-some (tree_seen names c.args.tree.now.rules) (page_bytes c.args.page) c.args.i c.in-Some.rule (sym c.in-Some.is ∙ c.requires.rule)

pub returns-in_ok-downlink_rule-in-None-clause-told : goal.returns-in_ok-downlink_rule-in-None-clause-told
returns-in_ok-downlink_rule-in-None-clause-told g c names told = item_rule-none (tree_seen names c.args.tree.now.rules) (page_bytes c.args.page) c.args.i _ (sym c.in-None.is ∙ c.requires.rule) (c.in_ok-downlink_rule-in-None.ensures.told names told)
