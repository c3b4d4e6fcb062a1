use Rattle.outside.proofs.Adding.{loop-next, loop-none}
use Rattle.outside.proofs.Asking.{Passed-next, Passed-none}
use Rattle.std.proofs.Common.{◌∙◌}
use Rattle.reports.specs.Added.{report_lists}
use Rattle.cmd_answers.proofs.pages.judge_blocks.Goals as goal

pub loop-block-init : goal.loop-block-init
loop-block-init g c = record {
  found = λ names bytes told there. loop-none report_lists _ _;
  asked = Passed-none;
}

pub loop-block-preserved : goal.loop-block-preserved
loop-block-preserved g c = record {
  found = λ names bytes told there.
      loop-next report_lists _ _ _ _ _ (c.loop-block.invariant.found names bytes told there) (c.in_ok-judge_block.ensures.found names bytes (c.loop-block.invariant.asked.same ∙ told) there);
  asked = Passed-next c.loop-block.invariant.asked c.in_ok-judge_block.ensures.asked;
}
