use Rattle.outside.proofs.Adding.{Adds-exit, Begins-cut}
use Rattle.reports.specs.Added.{doubt_at, finding_at, joined, report_lists}
use Rattle.bt_pages.proofs.page.add_found.Goals as goal

pub returns-in_err-add_rule : goal.returns-in_err-add_rule
returns-in_err-add_rule c =
    Adds-exit report_lists c.from_residual.result _ c.args.report.now c.add_rule.new.self
    (joined (finding_at c.args.place c.args.rule) (doubt_at c.args.place c.args.doubt)) c.from_residual.ensures.1
    (Begins-cut report_lists (doubt_at c.args.place c.args.doubt) c.in_err-add_rule.ensures)
