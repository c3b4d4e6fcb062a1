use Rattle.std.proofs.Common.{◌≡◌, ◌∙◌, ℕ, ap, subst, arith}
use Rattle.std.specs.Prelude.{Option, length, slice_get}
use Rattle.outside.specs.Adds.{Begins, each_below}
use Rattle.outside.proofs.Adding.{Adds-exit, loop-cut, loop-next, loop-none}
use Rattle.key_orders.specs.declared.Tid.{Tid}
use Rattle.reports.specs.Added.{joined, report_lists}
use Rattle.heap_targets.specs.Targets.{is_in}
use Rattle.join_rules.specs.Lists.{nth_lists, tids_lists}
use Rattle.join_leaf_pass.proofs.leaf.Named.judge_list.Goals as goal

pub loop-k-init : goal.loop-k-init
loop-k-init c = record {
  lists = loop-none report_lists (λ k. nth_lists c.args.self.number (is_in c.args.self.targets.now) c.args.at.block c.args.at.item (slice_get c.args.tids.now k)) c.args.report.now;
}

pub loop-k-preserved : goal.loop-k-preserved
loop-k-preserved c =
    let at = c.args.at in
    let may = is_in c.args.self.targets.now in
    let of = λ (o : Option Tid). nth_lists c.args.self.number may at.block at.item o in
    record {
      lists =
          loop-next report_lists (λ k. of (slice_get c.args.tids.now k)) c.loop-k.k c.args.report.now c.loop-k.report c.judge_tid.new.report c.loop-k.invariant.lists
          (c.in_ok-judge_tid.ensures ∙ ap (λ (o : Option Tid). joined c.loop-k.report (of o)) c.get.ensures);
    }

pub returns-in_err-judge_tid : goal.returns-in_err-judge_tid
returns-in_err-judge_tid c =
    let at = c.args.at in
    let may = is_in c.args.self.targets.now in
    let of = λ (o : Option Tid). nth_lists c.args.self.number may at.block at.item o in
    let tids = c.args.tids.now in
    Adds-exit report_lists c.from_residual.result _ c.args.report.now c.judge_tid.new.report (tids_lists c.args.self.number may at.block at.item tids) c.from_residual.ensures.1
    (loop-cut report_lists (λ k. of (slice_get tids k)) c.loop-k.k (length tids) c.args.report.now c.loop-k.report c.judge_tid.new.report (omega arith) c.loop-k.invariant.lists
    (subst (λ (o : Option Tid). Begins report_lists c.loop-k.report c.judge_tid.new.report (of o)) c.get.ensures c.in_err-judge_tid.ensures))

pub returns : goal.returns
returns c =
    let whole : c.loop-k.k ≡ length c.args.tids.now = omega arith in
    subst (λ (n : ℕ). c.loop-k.report ≡ joined c.args.report.now (each_below report_lists (λ k. nth_lists c.args.self.number (is_in c.args.self.targets.now) c.args.at.block c.args.at.item (slice_get c.args.tids.now k)) n)) whole c.loop-k.invariant.lists
