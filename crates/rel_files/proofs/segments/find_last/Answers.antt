use Rattle.std.proofs.Common.{◌≡◌, ap, sym, ◌∙◌, Some, arith}
use Rattle.outside.proofs.Asking.{PassedAtMost-again, PassedAtMost-none}
use Rattle.rel_files.specs.Blocks.{first_not_full, last_segment, segment_length}
use Rattle.rel_files.proofs.Counting.{first_from, first_ended, first_at_end}
use Rattle.rel_files.proofs.Finding.{absent, blocks_or_none, blocks_present, present}
use Rattle.rel_files.proofs.segments.find_last.Goals as goal

pub returns-in_default-clause-told : goal.returns-in_default-clause-told
returns-in_default-clause-told g c names told = absent _ _ (c.in_ok-first.ensures.told names told) c.in_default.is

pub loop-blocks-init : goal.loop-blocks-init
unfolding last_segment
loop-blocks-init g c = record {
  held = λ names told. present _ _ _ (c.in_ok-first.ensures.told names (sym c.in_ok-first.ensures.asked.same ∙ told)) c.in-Some.is;
  blocks = λ names told. blocks_present _ _ _ (c.in_ok-first.ensures.told names (sym c.in_ok-first.ensures.asked.same ∙ told)) c.in-Some.is;
  so_far = λ names told. ap (first_not_full (segment_length names c.args.base.now) c.args.segment_blocks 0) (omega arith);
  within = omega arith;
  asked = PassedAtMost-none;
}

pub loop-blocks-preserved : goal.loop-blocks-preserved
loop-blocks-preserved g c = record {
  held = c.loop-blocks.invariant.held;
  blocks = λ names told. c.unwrap_or-blocks.ensures ∙ blocks_or_none _ _ (c.in_ok-ask.ensures.told names (c.loop-blocks.invariant.asked.same ∙ told));
  so_far = λ names told. c.loop-blocks.invariant.so_far names told ∙ first_from _ _ _ _ c.if-segment-reach.true (sym (c.loop-blocks.invariant.blocks names told) ∙ c.loop-blocks-test.true);
  within = omega arith;
  asked = PassedAtMost-again c.loop-blocks.invariant.asked c.in_ok-ask.ensures.asked;
}

pub returns-else-segment-reach-clause-told : goal.returns-else-segment-reach-clause-told
returns-else-segment-reach-clause-told g c names told =
    let here : (g.F.Files.seen c.ask.new.files).held ≡ Some names = c.in_ok-first.ensures.asked.same ∙ told in
    record {
      held = c.loop-blocks.invariant.held names here;
      segment = sym (c.loop-blocks.invariant.so_far names here ∙ first_at_end _ _ _ _ c.if-segment-reach.false);
      blocks = c.loop-blocks.invariant.blocks names here;
    }

pub returns-after-loop-blocks-clause-told : goal.returns-after-loop-blocks-clause-told
returns-after-loop-blocks-clause-told g c names told =
    let here : (g.F.Files.seen c.ask.new.files).held ≡ Some names = c.in_ok-first.ensures.asked.same ∙ told in
    let blocks = c.loop-blocks.invariant.blocks names here in
    record {
      held = c.loop-blocks.invariant.held names here;
      segment = sym (c.loop-blocks.invariant.so_far names here ∙ first_ended _ _ _ _ (λ e. c.loop-blocks-test.false (blocks ∙ e)));
      blocks = blocks;
    }
