use Rattle.std.proofs.Common.{◌≡◌, sym, subst}
use Rattle.std.specs.Prelude.{Option}
use Rattle.page_layout.specs.declared.rules.Rule.{Rule}
use Rattle.reports.specs.Added.{finding_at, joined, report_lists}
use Rattle.reports.proofs.OneAdded.{finding_added}
use Rattle.outside.specs.Adds.{AddsIn}
use Rattle.reports.proofs.report.Report.add_rule.Goals as goal

-- src/report.rt:65:5
pub returns-in-None : goal.returns-in-None
returns-in-None c =
    subst (λ (rule : Option Rule). c.args.self.now ≡ joined c.args.self.now (finding_at c.args.place rule)) (sym c.in-None.is)
    (sym (report_lists.with_none c.args.self.now))

-- src/report.rt:65:5
pub returns-in-Some : goal.returns-in-Some
returns-in-Some c =
    subst (λ (rule : Option Rule). AddsIn report_lists c.finding.result c.args.self.now c.finding.new.self (finding_at c.args.place rule)) (sym c.in-Some.is)
    (finding_added c.finding.result c.args.self.now c.finding.new.self (record { rule = c.in-Some.rule; place = c.args.place }) c.finding.ensures.ok c.finding.ensures.err)
