use Rattle.std.proofs.Common.{◌+◌, ◌∷◌, [], ◌∙◌, ℕ, List, length, ap, arith}
use Rattle.std.proofs.lemmas.List.{length-append}
use Rattle.outside.proofs.Asking.{PassedAtMost-next, PassedAtMost-none}
use Rattle.page_layout.specs.View.{page_bytes}
use Rattle.liveness.specs.declared.states.ItemState.{ItemState}
use Rattle.heap_rows.proofs.StateLaws.{next_upto, none_upto}
use Rattle.heap_rows.proofs.states.fill_states.Goals as goal

pub loop-k-init : goal.loop-k-init
loop-k-init g c = record {
  told = λ names told table same placed. none_upto table (page_bytes c.args.page) _;
  count = ap (λ (s : List ItemState). length s) c.clear.ensures.items;
  asked = PassedAtMost-none;
}

pub loop-k-preserved : goal.loop-k-preserved
loop-k-preserved g c =
    let before = c.loop-k.invariant in
    let pushed = c.in_ok-push_state.ensures.states in
    record {
      told = λ names told table same placed.
          next_upto table (page_bytes c.args.page) c.loop-k.states.items c.push_state.new.states.items c.in_ok-state.state c.loop-k.k before.count pushed
          (before.told names told table same placed) (c.in_ok-state.ensures.told names (before.asked.same ∙ told) table same placed);
      count = ap (λ (s : List ItemState). length s) pushed ∙ length-append c.loop-k.states.items (c.in_ok-state.state ∷ []) ∙ ap (λ (n : ℕ). n + 1) before.count;
      asked = PassedAtMost-next 327690 c.loop-k.k before.asked c.in_ok-state.ensures.asked;
    }

pub returns-clause-told : goal.returns-clause-told
returns-clause-told g c = λ names told table same placed.
    let count = c.loop-k.invariant.count in
    record {
      count = omega (arith, count, c.loop-k-test.false, c.loop-k.auto.k-end, c.item_count-k-end.ensures.value);
      each = λ i first last. c.loop-k.invariant.told names told table same placed i first (omega (arith, last, c.loop-k-test.false, c.loop-k.auto.k-end, c.item_count-k-end.ensures.value));
    }
