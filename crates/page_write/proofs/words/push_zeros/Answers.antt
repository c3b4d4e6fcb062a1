use Rattle.std.proofs.Common.{◌≡◌, ◌+◌, ◌-◌, ◌++◌, ℕ, List, length, take, replicate, ap, ◌∙◌, arith, rules}
use Rattle.std.proofs.lemmas.List.{take_all}
use Rattle.page_write.specs.Pages.{zeros}
use Rattle.page_write.proofs.words.push_zeros.Goals as goal

filled : (xs new : List ℕ) (count len same : ℕ) → len ≡ length xs → same ≡ length xs
    → new ≡ take (len + count) xs ++ replicate (len + count - same) 0
    → new ≡ xs ++ zeros count
unfolding zeros
filled xs new count len same e f is =
    let more : len + count - same ≡ count = omega (arith, e, f) in
    is ∙ ap (λ (z : List ℕ). z ++ replicate (len + count - same) 0) (take_all (len + count) xs (omega (arith, e)))
    ∙ ap (λ (n : ℕ). xs ++ replicate n 0) more

pub returns : goal.returns
returns c = filled c.args.out.now.items _ c.args.count c.len.result _ (search rules) (omega (arith, c.args.out.now.ok)) c.in_ok-resize.ensures.items
