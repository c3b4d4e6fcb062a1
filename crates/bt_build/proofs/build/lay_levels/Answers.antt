use Rattle.std.proofs.Common.{◌≡◌, ◌∙◌, ◌∷◌, ◌++◌, ℕ, List, add-one, ap, arith, drop, subst, suc, sym}
use Rattle.std.specs.List.{AllByRecursion}
use Rattle.std.proofs.Math.Seq.{drop-cons}
use Rattle.laws_building.specs.Built.{lay_levels}
use Rattle.laws_built_index.specs.Trees.{IsPageFit}
use Rattle.bt_build.specs.declared.levels.Level.{Level}
use Rattle.bt_build.specs.Laid.{AreLevelsLeft, levels_bytes}
use Rattle.bt_build.specs.Levels.{AreLevels, sheets_of}
use Rattle.bt_build.specs.Source.{entries_sorted}
use Rattle.bt_build.proofs.PageLaws.{within_list}
use Rattle.bt_build.proofs.TreeLaws.{leaf_begin, many}
use Rattle.bt_build.proofs.UpLaws.{begins, below_few, first_left, here_fit, leaf_fit, next_left, number_few, up_few, within_end}
use Rattle.bt_build.proofs.build.lay_levels.Goals as goal

pub lay_leaves-requires-clause-bounds : goal.lay_leaves-requires-clause-bounds
lay_leaves-requires-clause-bounds c =
    let s = c.args.sorted.source in
    let es = entries_sorted c.args.sorted in
    let items = c.args.items.now in
    let leaf = c.in-Some.leaves.now in
    let ups = c.in-Some.above.now in
    let end = c.args.all.now.end in
    let cut : c.args.all.now.levels.items ≡ leaf ∷ ups = sym c.deref.ensures.value ∙ c.in-Some.ensures.cases.0 in
    let are : AreLevels s.specs.now es items (leaf ∷ ups) end = subst (λ (w : List Level). AreLevels s.specs.now es items w end) cut c.requires.levels in
    leaf_begin s.specs.now s.more.now es items c.requires.items leaf are.0

pub lay_leaves-requires-clause-few : goal.lay_leaves-requires-clause-few
lay_leaves-requires-clause-few c =
    let s = c.args.sorted.source in
    let es = entries_sorted c.args.sorted in
    let items = c.args.items.now in
    let leaf = c.in-Some.leaves.now in
    let ups = c.in-Some.above.now in
    let end = c.args.all.now.end in
    let cut : c.args.all.now.levels.items ≡ leaf ∷ ups = sym c.deref.ensures.value ∙ c.in-Some.ensures.cases.0 in
    let are : AreLevels s.specs.now es items (leaf ∷ ups) end = subst (λ (w : List Level). AreLevels s.specs.now es items w end) cut c.requires.levels in
    let within = within_end s.specs.now s.more.now es leaf ups end are.1 in
    omega (arith, within, are.0.first, c.requires.few)

pub lay_leaves-requires-clause-fit : goal.lay_leaves-requires-clause-fit
lay_leaves-requires-clause-fit c =
    let s = c.args.sorted.source in
    let es = entries_sorted c.args.sorted in
    let items = c.args.items.now in
    let leaf = c.in-Some.leaves.now in
    let ups = c.in-Some.above.now in
    let end = c.args.all.now.end in
    let cut : c.args.all.now.levels.items ≡ leaf ∷ ups = sym c.deref.ensures.value ∙ c.in-Some.ensures.cases.0 in
    let are : AreLevels s.specs.now es items (leaf ∷ ups) end = subst (λ (w : List Level). AreLevels s.specs.now es items w end) cut c.requires.levels in
    let fit = subst (λ (w : List Level). AllByRecursion (IsPageFit s.specs.now s.more.now) (lay_levels (sheets_of s.specs.now es items w) 0 1)) cut c.requires.fit in
    let pages = many s.specs.now s.more.now es items c.requires.items leaf are.0 in
    leaf_fit s.specs.now s.more.now es leaf ups end items are.0 pages fit

pub loop-i-init : goal.loop-i-init
loop-i-init c =
    let s = c.args.sorted.source in
    let es = entries_sorted c.args.sorted in
    let items = c.args.items.now in
    let leaf = c.in-Some.leaves.now in
    let ups = c.in-Some.above.now in
    let end = c.args.all.now.end in
    let cut : c.args.all.now.levels.items ≡ leaf ∷ ups = sym c.deref.ensures.value ∙ c.in-Some.ensures.cases.0 in
    let are : AreLevels s.specs.now es items (leaf ∷ ups) end = subst (λ (w : List Level). AreLevels s.specs.now es items w end) cut c.requires.levels in
    let fit = subst (λ (w : List Level). AllByRecursion (IsPageFit s.specs.now s.more.now) (lay_levels (sheets_of s.specs.now es items w) 0 1)) cut c.requires.fit in
    let pages = many s.specs.now s.more.now es items c.requires.items leaf are.0 in
    subst (λ (w : List ℕ × List Level). AreLevelsLeft s.specs.now s.more.now es leaf ups end w.0 (c.args.out.now.items ++ levels_bytes s.specs.now s.more.now (sheets_of s.specs.now es items w.1) 0 1))
    (λ i. (sym c.in_ok-lay_leaves.ensures i, sym cut i)) (first_left s.specs.now s.more.now es leaf ups end items are.0 pages fit c.args.out.now.items are.1 c.requires.few)

pub lay_above-requires-clause-pages : goal.lay_above-requires-clause-pages
lay_above-requires-clause-pages c =
    let s = c.args.sorted.source in
    let es = entries_sorted c.args.sorted in
    let below = c.loop-i.below.now in
    let up = c.index-above-i.result in
    let ups = drop (suc c.loop-i.i) c.in-Some.above.now in
    let end = c.args.all.now.end in
    let cut : drop c.loop-i.i c.in-Some.above.now ≡ up ∷ ups = drop-cons c.in-Some.above.now c.loop-i.i up c.loop-i-test.true ∙ ap (λ (u : Level). u ∷ ups) (sym c.index-above-i.is) in
    let target : List ℕ = c.args.out.now.items ++ levels_bytes s.specs.now s.more.now (sheets_of s.specs.now es c.args.items.now c.args.all.now.levels.items) 0 1 in
    let left = subst (λ (w : List Level). AreLevelsLeft s.specs.now s.more.now es below w end c.loop-i.out.items target) cut c.loop-i.invariant in
    left.above.1.pages

pub lay_above-requires-clause-bounds : goal.lay_above-requires-clause-bounds
lay_above-requires-clause-bounds c =
    let s = c.args.sorted.source in
    let es = entries_sorted c.args.sorted in
    let below = c.loop-i.below.now in
    let up = c.index-above-i.result in
    let ups = drop (suc c.loop-i.i) c.in-Some.above.now in
    let end = c.args.all.now.end in
    let cut : drop c.loop-i.i c.in-Some.above.now ≡ up ∷ ups = drop-cons c.in-Some.above.now c.loop-i.i up c.loop-i-test.true ∙ ap (λ (u : Level). u ∷ ups) (sym c.index-above-i.is) in
    let target : List ℕ = c.args.out.now.items ++ levels_bytes s.specs.now s.more.now (sheets_of s.specs.now es c.args.items.now c.args.all.now.levels.items) 0 1 in
    let left = subst (λ (w : List Level). AreLevelsLeft s.specs.now s.more.now es below w end c.loop-i.out.items target) cut c.loop-i.invariant in
    begins s.specs.now s.more.now es below up ups end c.loop-i.out.items target left

pub lay_above-requires-clause-number : goal.lay_above-requires-clause-number
lay_above-requires-clause-number c =
    let s = c.args.sorted.source in
    let es = entries_sorted c.args.sorted in
    let below = c.loop-i.below.now in
    let up = c.index-above-i.result in
    let ups = drop (suc c.loop-i.i) c.in-Some.above.now in
    let end = c.args.all.now.end in
    let cut : drop c.loop-i.i c.in-Some.above.now ≡ up ∷ ups = drop-cons c.in-Some.above.now c.loop-i.i up c.loop-i-test.true ∙ ap (λ (u : Level). u ∷ ups) (sym c.index-above-i.is) in
    let target : List ℕ = c.args.out.now.items ++ levels_bytes s.specs.now s.more.now (sheets_of s.specs.now es c.args.items.now c.args.all.now.levels.items) 0 1 in
    let left = subst (λ (w : List Level). AreLevelsLeft s.specs.now s.more.now es below w end c.loop-i.out.items target) cut c.loop-i.invariant in
    number_few s.specs.now s.more.now es below up ups end c.loop-i.out.items target left

pub lay_above-requires-clause-few : goal.lay_above-requires-clause-few
lay_above-requires-clause-few c =
    let s = c.args.sorted.source in
    let es = entries_sorted c.args.sorted in
    let below = c.loop-i.below.now in
    let up = c.index-above-i.result in
    let ups = drop (suc c.loop-i.i) c.in-Some.above.now in
    let end = c.args.all.now.end in
    let cut : drop c.loop-i.i c.in-Some.above.now ≡ up ∷ ups = drop-cons c.in-Some.above.now c.loop-i.i up c.loop-i-test.true ∙ ap (λ (u : Level). u ∷ ups) (sym c.index-above-i.is) in
    let target : List ℕ = c.args.out.now.items ++ levels_bytes s.specs.now s.more.now (sheets_of s.specs.now es c.args.items.now c.args.all.now.levels.items) 0 1 in
    let left = subst (λ (w : List Level). AreLevelsLeft s.specs.now s.more.now es below w end c.loop-i.out.items target) cut c.loop-i.invariant in
    below_few s.specs.now s.more.now es below up ups end c.loop-i.out.items target left

pub lay_above-requires-clause-first : goal.lay_above-requires-clause-first
lay_above-requires-clause-first c =
    let s = c.args.sorted.source in
    let es = entries_sorted c.args.sorted in
    let below = c.loop-i.below.now in
    let up = c.index-above-i.result in
    let ups = drop (suc c.loop-i.i) c.in-Some.above.now in
    let end = c.args.all.now.end in
    let cut : drop c.loop-i.i c.in-Some.above.now ≡ up ∷ ups = drop-cons c.in-Some.above.now c.loop-i.i up c.loop-i-test.true ∙ ap (λ (u : Level). u ∷ ups) (sym c.index-above-i.is) in
    let target : List ℕ = c.args.out.now.items ++ levels_bytes s.specs.now s.more.now (sheets_of s.specs.now es c.args.items.now c.args.all.now.levels.items) 0 1 in
    let left = subst (λ (w : List Level). AreLevelsLeft s.specs.now s.more.now es below w end c.loop-i.out.items target) cut c.loop-i.invariant in
    up_few s.specs.now s.more.now es below up ups end c.loop-i.out.items target left

pub lay_above-requires-clause-fit : goal.lay_above-requires-clause-fit
lay_above-requires-clause-fit c =
    let s = c.args.sorted.source in
    let es = entries_sorted c.args.sorted in
    let below = c.loop-i.below.now in
    let up = c.index-above-i.result in
    let ups = drop (suc c.loop-i.i) c.in-Some.above.now in
    let end = c.args.all.now.end in
    let cut : drop c.loop-i.i c.in-Some.above.now ≡ up ∷ ups = drop-cons c.in-Some.above.now c.loop-i.i up c.loop-i-test.true ∙ ap (λ (u : Level). u ∷ ups) (sym c.index-above-i.is) in
    let target : List ℕ = c.args.out.now.items ++ levels_bytes s.specs.now s.more.now (sheets_of s.specs.now es c.args.items.now c.args.all.now.levels.items) 0 1 in
    let left = subst (λ (w : List Level). AreLevelsLeft s.specs.now s.more.now es below w end c.loop-i.out.items target) cut c.loop-i.invariant in
    here_fit s.specs.now s.more.now es below up ups end c.loop-i.out.items target left

pub loop-i-preserved : goal.loop-i-preserved
loop-i-preserved c =
    let s = c.args.sorted.source in
    let es = entries_sorted c.args.sorted in
    let below = c.loop-i.below.now in
    let up = c.index-above-i.result in
    let ups = drop (suc c.loop-i.i) c.in-Some.above.now in
    let end = c.args.all.now.end in
    let cut : drop c.loop-i.i c.in-Some.above.now ≡ up ∷ ups = drop-cons c.in-Some.above.now c.loop-i.i up c.loop-i-test.true ∙ ap (λ (u : Level). u ∷ ups) (sym c.index-above-i.is) in
    let target : List ℕ = c.args.out.now.items ++ levels_bytes s.specs.now s.more.now (sheets_of s.specs.now es c.args.items.now c.args.all.now.levels.items) 0 1 in
    let left = subst (λ (w : List Level). AreLevelsLeft s.specs.now s.more.now es below w end c.loop-i.out.items target) cut c.loop-i.invariant in
    let next = next_left s.specs.now s.more.now es below up ups end c.loop-i.out.items target left in
    let same : up ≡ c.index-above-i-in-loop-i.result =
    c.index-above-i.is ∙ within_list c.in-Some.above.now c.loop-i.i up c.index-above-i-in-loop-i.result c.loop-i-test.true ∙ sym c.index-above-i-in-loop-i.is in
    subst (λ (w : List ℕ × ℕ × Level). AreLevelsLeft s.specs.now s.more.now es w.2 (drop w.1 c.in-Some.above.now) end w.0 target)
    (λ i. (sym c.in_ok-lay_above.ensures i, sym (add-one c.loop-i.i) i, same i)) next
