use Rattle.std.proofs.Common.{◌+◌, ◌-◌, ◌/◌, ◌∙◌, arith, sym}
use Rattle.page_layout.specs.View.{page_bytes}
use Rattle.bt_image.proofs.PageFields.{first_cases}
use Rattle.bt_steps.proofs.inner.last_passed.Goals as goal

pub loop-high-preserved-then-goes_right_of : goal.loop-high-preserved-then-goes_right_of
loop-high-preserved-then-goes_right_of g c =
    let page = page_bytes c.args.page in
    let middle = c.loop-high.low + (c.loop-high.high - c.loop-high.low) / 2 in
    let one = first_cases page in
    record {
      from = omega arith;
      less = omega arith;
      to = c.loop-high.invariant.to;
      passed = λ readable alive past.
          sym (c.goes_right_of.ensures (readable.items alive middle (omega arith) (omega arith))) ∙ c.if-goes_right_of.true;
      stopped = c.loop-high.invariant.stopped;
    }

pub loop-high-preserved : goal.loop-high-preserved
loop-high-preserved g c =
    let page = page_bytes c.args.page in
    let middle = c.loop-high.low + (c.loop-high.high - c.loop-high.low) / 2 in
    let one = first_cases page in
    record {
      from = c.loop-high.invariant.from;
      less = omega arith;
      to = omega arith;
      passed = c.loop-high.invariant.passed;
      stopped = λ readable alive within.
          sym (c.goes_right_of.ensures (readable.items alive middle (omega arith) (omega arith))) ∙ c.if-goes_right_of.false;
    }
