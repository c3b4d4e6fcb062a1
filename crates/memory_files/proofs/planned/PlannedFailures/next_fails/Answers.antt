-- One more number is counted down.
use Rattle.std.proofs.Common.{ℕ, ◌-◌, ◌<◌, length, get_or, arith}
use Rattle.std.proofs.lemmas.List.{get_or_default}
use Rattle.std.proofs.lemmas.List.Edits.{map_over_more}
use Rattle.memory_files.proofs.planned.PlannedFailures.next_fails.Goals as goal

pub loop-n-preserved : goal.loop-n-preserved
loop-n-preserved c =
    let now = c.loop-n.n-items in
    let at = c.loop-n.n-index in
    let n : ℕ = get_or now at 0 in
    let within : at < length now = omega arith in
    let was_within : at < length c.deref_mut-n-items.result.now = omega arith in
    rw c.saturating_sub.ensures
    (map_over_more (λ n. n - 1) c.deref_mut-n-items.result.now now at n was_within c.loop-n.invariant
    (get_or_default now at 0 n within))
