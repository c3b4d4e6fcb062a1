use Rattle.std.proofs.Common.{◌∙◌, sym}
use Rattle.page_layout.specs.View.{page_bytes}
use Rattle.bt_pages.proofs.Rules.{lone_rule-header}
use Rattle.bt_pages.proofs.alone.lone_rule.Goals as goal

pub returns-in-Some-clause-value : goal.returns-in-Some-clause-value
returns-in-Some-clause-value c = sym (lone_rule-header (page_bytes c.args.page) c.in-Some.rule (sym c.page_rule.ensures.value ∙ c.in-Some.is))
