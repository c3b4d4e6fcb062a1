use Rattle.outside.proofs.Adding.{Adds-exit, Begins-none}
use Rattle.std.proofs.Common.{sym, subst}
use Rattle.outside.specs.Adds.{Begins}
use Rattle.reports.specs.Added.{report_lists}
use Rattle.reports.specs.Lists.{Lists}
use Rattle.bt_levels.specs.Files.{number_of}
use Rattle.bt_levels.specs.Sound.{file_of}
use Rattle.join_rules.specs.Lists.{indexed_lists}
use Rattle.heap_indexed.proofs.check.check_indexed.Goals as goal

pub returns-in_err-own-clause-lists : goal.returns-in_err-own-clause-lists
returns-in_err-own-clause-lists g c = λ names told.
    let owed = indexed_lists c.args.at.case.now names (number_of (file_of c.args.at.tree.now)) in
    Adds-exit report_lists c.from_residual.result _ c.args.report.now c.args.report.now owed c.from_residual.ensures.1 (Begins-none report_lists c.args.report.now owed)

pub returns-in_err-append-clause-lists : goal.returns-in_err-append-clause-lists
returns-in_err-append-clause-lists g c = λ names told.
    let owed = indexed_lists c.args.at.case.now names (number_of (file_of c.args.at.tree.now)) in
    Adds-exit report_lists c.from_residual-in_err-append.result _ c.args.report.now c.append.new.self owed c.from_residual-in_err-append.ensures.1
    (subst (λ (l : Lists). Begins report_lists c.args.report.now l owed) (sym c.in_err-append.ensures.err) (Begins-none report_lists c.args.report.now owed))
