use Rattle.std.proofs.Common.{◌≡◌, ◌+◌, ◌-◌, ◌<◌, ◌≤◌, ◌==◌, ℕ, false, get_or, ap, subst, ◌∙◌, arith}
use Rattle.std.proofs.lemmas.Simd.{get_or-chunk}
use Rattle.copy_out.proofs.LaneLaws.{high_has_none, none_by}
use Rattle.copy_out.proofs.lanes.may_have_letters.Goals as goal

pub returns-else-low_lanes-ne0 : goal.returns-else-low_lanes-ne0
returns-else-low_lanes-ne0 c e k from to =
    let bytes = c.args.bytes.now in
    let at = c.args.at in
    let j : ℕ = k - at in
    let lt : j < 32 = omega arith in
    let place : at + j ≡ k = omega arith in
    let same = get_or-chunk at 32 bytes j 0 lt ∙ ap (λ (n : ℕ). get_or bytes n 0) place in
    high_has_none (get_or bytes k 0) (subst (λ (b : ℕ). 14 ≤ b) same (c.low_lanes.ensures c.if-low_lanes-ne0.false j lt))
    (subst (λ (b : ℕ). (b == 92) ≡ false) same (c.backslash_lanes.ensures (none_by c.backslash_lanes.result e) j lt))
