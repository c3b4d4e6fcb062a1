use Rattle.std.proofs.Common.{◌≡◌, ◌≤◌, ◌<◌, ◌+◌, ◌∙◌, ◌++◌, ◌∷◌, [], List, ap, append_assoc, arith, length, subst, sym}
use Rattle.bt_build.specs.declared.levels.Level.{Level}
use Rattle.bt_build.specs.Levels.{AreLevels}
use Rattle.bt_build.specs.Source.{entries_sorted}
use Rattle.bt_build.proofs.PageLaws.{one_each, pages_few}
use Rattle.bt_build.specs.Levels.{firsts_in}
use Rattle.bt_build.proofs.levels.levels_over.Goals as goal

pub loop-alloc-init : goal.loop-alloc-init
loop-alloc-init c =
    let specs = c.args.sorted.source.specs.now in
    let es = entries_sorted c.args.sorted in
    let top = c.in_ok-top.top in
    let is = c.in_ok-top.ensures in
    let many = ap length is.bounds ∙ one_each top.counts.items (firsts_in c.args.items.now) in
    let few = pages_few top.counts.items (length c.args.items.now) is.pages in (
      λ ups end above. subst (λ (w : List Level). AreLevels specs es c.args.items.now (w ++ top ∷ ups) end) (sym c.new-levels.ensures.items) (is, above),
      omega (arith, many, few, c.requires.few, is.number),
      omega (arith, many, few, c.requires.few, is.first),
    )

pub loop-alloc-preserved : goal.loop-alloc-preserved
loop-alloc-preserved c =
    let specs = c.args.sorted.source.specs.now in
    let es = entries_sorted c.args.sorted in
    let levels = c.loop-alloc.levels.items in
    let top = c.loop-alloc.top in
    let next = c.in_ok-above.above in
    let is = c.in_ok-above.ensures in
    let more : 1 < length top.bounds.items = omega (arith, c.loop-alloc-test.true, c.len.ensures, top.bounds.ok) in (
      λ ups end above. subst (λ (w : List Level). AreLevels specs es c.args.items.now (w ++ next ∷ ups) end) (sym c.in_ok-push.ensures.items)
          (subst (λ (w : List Level). AreLevels specs es c.args.items.now w end) (sym (append_assoc levels (top ∷ []) (next ∷ ups)))
          (c.loop-alloc.invariant.0 (next ∷ ups) end (more, is, above))),
      omega (arith, more, is.half, is.number, c.loop-alloc.invariant.1),
      omega (arith, more, is.half, is.first, c.loop-alloc.invariant.2),
    )

pub returns : goal.returns
returns c =
    let specs = c.args.sorted.source.specs.now in
    let es = entries_sorted c.args.sorted in
    let top = c.loop-alloc.top in
    let one : length top.bounds.items ≤ 1 = omega (arith, c.loop-alloc-test.false, c.len.ensures, top.bounds.ok) in
    let end : top.first + c.len-2.result ≡ top.first + length top.bounds.items = omega (arith, c.len-2.ensures, top.bounds.ok) in
    subst (λ (w : List Level). AreLevels specs es c.args.items.now w (top.first + c.len-2.result)) (sym c.in_ok-push-2.ensures.items)
    (c.loop-alloc.invariant.0 [] (top.first + c.len-2.result) (one, end))
