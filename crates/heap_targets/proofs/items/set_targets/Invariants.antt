use Rattle.std.proofs.Common.{◌≡◌, ◌+◌, ◌<◌, ◌≤◌, ℕ, false}
use Rattle.page_layout.specs.View.{page_bytes}
use Rattle.page_layout.specs.Bits.{is_set}
use Rattle.heap_targets.specs.Targets.{is_target}
use Rattle.heap_targets.proofs.items.set_targets.Given as goal

abbrev pub invariant-loop-j : goal.invariant-loop-j
invariant-loop-j l = record {
  before : (p : ℕ) → p < l.start → is_set l.bits p ≡ is_set l.initial.bits p;
  items : (k : ℕ) → k < l.j → is_set l.bits (l.start + k) ≡ is_target (page_bytes l.page) (1 + k);
  behind : (p : ℕ) → l.start + l.j ≤ p → is_set l.bits p ≡ false;
}
