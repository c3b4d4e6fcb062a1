use Rattle.std.proofs.Common.{◌≡◌, ◌-◌, ◌∙◌, ◌++◌, ◌∷◌, [], ℕ, List, suc, add-one, ap, append-nil, append_assoc, arith, drop, get_or, length, length-drop, subst, sym}
use Rattle.std.proofs.Math.Seq.{drop-cons}
use Rattle.std.proofs.lemmas.List.{drop_all}
use Rattle.bt_build.specs.Levels.{ArePages, at_firsts}
use Rattle.bt_build.proofs.PageLaws.{pages_here}
use Rattle.bt_build.proofs.levels.at_firsts.Goals as goal

pub bounds-left-0 : goal.bounds-left-0
bounds-left-0 c =
    let h = pages_here c.args.counts.now c.loop-i.i 0 (length c.loop-i.left.now) c.loop-i-test.true c.loop-i.invariant.0 in
    omega (arith, h.0, h.1)

pub split_at-requires : goal.split_at-requires
split_at-requires c = (pages_here c.args.counts.now c.loop-i.i 0 (length c.loop-i.left.now) c.loop-i-test.true c.loop-i.invariant.0).1

pub loop-i-preserved : goal.loop-i-preserved
loop-i-preserved c =
    let counts = c.args.counts.now in
    let i = c.loop-i.i in
    let left = c.loop-i.left.now in
    let n = get_or counts i 0 in
    let h = pages_here counts i 0 (length left) c.loop-i-test.true c.loop-i.invariant.0 in
    let long : length left - n ≡ length (drop n left) = let l = length-drop n left in omega (arith, l) in
    let pages : ArePages (drop (suc i) counts) (length (drop n left)) = subst (ArePages (drop (suc i) counts)) long h.2 in
    let whole : (c.loop-i.firsts.items ++ get_or left 0 0 ∷ []) ++ at_firsts (drop (suc i) counts) (drop n left) ≡ at_firsts counts c.args.items.now =
    append_assoc c.loop-i.firsts.items (get_or left 0 0 ∷ []) (at_firsts (drop (suc i) counts) (drop n left))
    ∙ ap (λ (w : List ℕ). c.loop-i.firsts.items ++ at_firsts w left) (sym (drop-cons counts i 0 c.loop-i-test.true))
    ∙ c.loop-i.invariant.1 in
    subst (λ (w : List ℕ × List ℕ × ℕ). ArePages (drop w.2 counts) (length w.1) × (w.0 ++ at_firsts (drop w.2 counts) w.1 ≡ at_firsts counts c.args.items.now))
    (λ j. (sym c.in_ok-push.ensures.items j, sym c.split_at.ensures.back j, sym (add-one i) j)) (pages, whole)

pub returns : goal.returns
returns c =
    let none : drop c.loop-i.i c.args.counts.now ≡ [] = drop_all c.loop-i.i c.args.counts.now (omega (arith, c.loop-i-test.false)) in
    sym (append-nil c.loop-i.firsts.items) ∙ ap (λ (w : List ℕ). c.loop-i.firsts.items ++ at_firsts w c.loop-i.left.now) (sym none) ∙ c.loop-i.invariant.1
