use Rattle.std.proofs.Common.{arith}
use Rattle.outside.proofs.Adding.{Adds-exit, Begins-after, Leaves-last, Leaves-none, Leaves-then}
use Rattle.reports.specs.Added.{report_lists}
use Rattle.join_unique.specs.Later.{later_lists}
use Rattle.join_unique.proofs.Adding.{later-cut, later-end, later-step, left-is}
use Rattle.join_unique.proofs.check.add_later.Goals as goal

pub loop-k-init : goal.loop-k-init
loop-k-init c = Leaves-none report_lists c.args.report.now (later_lists c.args.index c.args.numbers.now)

pub loop-k-preserved : goal.loop-k-preserved
loop-k-preserved c =
    Leaves-then report_lists c.loop-k.invariant
    (later-step c.args.index c.args.numbers.now c.loop-k.k c.loop-k-test.true c.loop-k.report c.add_rule.new.self c.in_ok-add_rule.ensures)

pub returns-in_err-add_rule : goal.returns-in_err-add_rule
returns-in_err-add_rule c =
    Adds-exit report_lists c.from_residual.result _ c.args.report.now c.add_rule.new.self (later_lists c.args.index c.args.numbers.now) c.from_residual.ensures.1
    (Begins-after report_lists c.loop-k.invariant
    (later-cut c.args.index c.args.numbers.now c.loop-k.k c.loop-k-test.true c.loop-k.report c.add_rule.new.self c.in_err-add_rule.ensures))

pub returns : goal.returns
returns c = Leaves-last report_lists (left-is (later-end c.args.index c.args.numbers.now c.loop-k.k (omega (arith, c.loop-k-test.false))) c.loop-k.invariant)
