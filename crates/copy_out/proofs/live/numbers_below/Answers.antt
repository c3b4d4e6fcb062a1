use Rattle.std.proofs.Common.{◌≡◌, ◌+◌, ◌∷◌, [], ◌++◌, List, ℕ, sym, ap, ◌∙◌, arith}
use Rattle.copy_out.specs.Live.{numbers_from}
use Rattle.copy_out.proofs.Asking.{numbers_next}
use Rattle.copy_out.proofs.live.numbers_below.Goals as goal

pub loop-k-preserved : goal.loop-k-preserved
loop-k-preserved c =
    let k : c.loop-k.k ≡ 0 + c.loop-k.k = omega arith in
    c.in_ok-push.ensures.items ∙ ap (λ (ns : List ℕ). ns ++ c.loop-k.k ∷ []) c.loop-k.invariant
    ∙ ap (λ (n : ℕ). numbers_from 0 c.loop-k.k ++ n ∷ []) k ∙ sym (numbers_next 0 c.loop-k.k)
