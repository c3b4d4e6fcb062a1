use Rattle.std.proofs.Common.{◌∙◌}
use Rattle.outside.proofs.Adding.{loop-next, loop-none}
use Rattle.outside.proofs.Asking.{Passed-next, Passed-none}
use Rattle.reports.specs.Added.{report_lists}
use Rattle.heap_table_check.proofs.map.MapPage.judge_pages.Goals as goal

pub loop-block-init : goal.loop-block-init
loop-block-init g c = record {
  found = λ names told. loop-none report_lists _ _;
  hand = c.requires.hand;
  asked = Passed-none;
}

pub loop-block-preserved : goal.loop-block-preserved
loop-block-preserved g c = record {
  found = λ names told. loop-next report_lists _ _ _ _ _ (c.loop-block.invariant.found names told) (c.in_ok-judge_page.ensures.found names (c.loop-block.invariant.asked.same ∙ told));
  hand = λ names told. c.in_ok-judge_page.ensures.hand names (c.loop-block.invariant.asked.same ∙ told);
  asked = Passed-next c.loop-block.invariant.asked c.in_ok-judge_page.ensures.asked;
}
