use Rattle.std.proofs.Common.{◌≡◌, ℕ, ◌+◌, ◌-◌, ◌∙◌, arith, subst}
use Rattle.page_layout.specs.View.{page_bytes}
use Rattle.heap_page_check.specs.Storage.{AreCells}
use Rattle.outside.proofs.Asking.{Passed-next, Passed-none}
use Rattle.outside.specs.Adds.{one_list}
use Rattle.reports.proofs.Upto.{upto-next, upto-none}
use Rattle.heap_page_check.specs.Found.{found_parts}
use Rattle.heap_page_check.proofs.items.judge_items.Goals as goal

pub loop-k-init : goal.loop-k-init
loop-k-init g c = record {
  found = λ names told. upto-none found_parts _ _;
  states = λ names told. upto-none one_list _ _;
  few = c.requires.blank;
  cells = c.requires.free;
  asked = Passed-none;
}

pub judge_and_add-requires-clause-before : goal.judge_and_add-requires-clause-before
judge_and_add-requires-clause-before g c =
    let same : c.loop-k.k ≡ c.loop-k.k + 1 - 1 = omega arith in
    subst (λ (n : ℕ). AreCells (page_bytes c.args.at.view) n c.loop-k.work.cells) same c.loop-k.invariant.cells

pub loop-k-preserved : goal.loop-k-preserved
loop-k-preserved g c = record {
  found = λ names told. upto-next found_parts _ _ _ _ _ (c.loop-k.invariant.found names told) (c.in_ok-judge_and_add.ensures.found names (c.loop-k.invariant.asked.same ∙ told));
  states = λ names told. upto-next one_list _ _ _ _ _ (c.loop-k.invariant.states names told) (c.in_ok-judge_and_add.ensures.states names (c.loop-k.invariant.asked.same ∙ told));
  few = omega (arith, c.in_ok-judge_and_add.ensures.more, c.loop-k.invariant.few);
  cells = c.in_ok-judge_and_add.ensures.after;
  asked = Passed-next c.loop-k.invariant.asked c.in_ok-judge_and_add.ensures.asked;
}
