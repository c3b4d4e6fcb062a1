use Rattle.std.proofs.Common.{◌≡◌, ◌-◌, ◌∙◌, ap, arith, length, subst, sym}
use Rattle.std.specs.Prelude.{None, Option, unwrap_or}
use Rattle.std.proofs.lemmas.Result.{on_ok_weaker}
use Rattle.laws_search.specs.Keys.{Separator}
use Rattle.key_orders.specs.declared.columns.Value.{Value}
use Rattle.key_orders.specs.declared.Tid.{Tid}
use Rattle.bt_image.specs.Image.{minus_infinity}
use Rattle.laws_built_index.specs.Items.{MaySplit, pivot_item}
use Rattle.bt_build.specs.Separators.{split_before}
use Rattle.bt_build.specs.Source.{entries_sorted}
use Rattle.bt_build.proofs.SeparatorLaws.{at, before_first, behind_last, front_is, may_there, nothing_long, short_there, split_is}
use Rattle.bt_build.proofs.separators.put_separator.Goals as goal
use Rattle.bt_build.proofs.separators.put_separator.Goals.{then-before-eq0-via-then-before-eq0, then-before-eq0-via-else-before-eq0+then-sorted-before}

pub returns-then-before-eq0-clause-item : goal.returns-then-before-eq0-clause-item
returns-then-before-eq0-clause-item c =
    let s = c.args.sorted.source in
    let specs = s.specs.now in
    let none : split_before specs (entries_sorted c.args.sorted) c.args.before ≡ None = elim c.then-before-eq0.branch [
      | then-before-eq0-via-then-before-eq0 w ↦ before_first specs s.more.now s.arena.now c.args.sorted.places.now c.args.before w.if-before-eq0.true
      | then-before-eq0-via-else-before-eq0+then-sorted-before w ↦ behind_last specs s.more.now s.arena.now c.args.sorted.places.now c.args.before (omega (arith, w.if-sorted-before.true))
    ] in
    on_ok_weaker c.put_nothing.result (λ is. is specs ∙ ap (λ (o : Option (Separator Value Tid)). pivot_item specs c.args.down (unwrap_or o minus_infinity)) (sym none)) c.put_nothing.ensures

pub returns-then-before-eq0-clause-short : goal.returns-then-before-eq0-clause-short
returns-then-before-eq0-clause-short c =
    let specs = c.args.sorted.source.specs.now in
    on_ok_weaker c.put_nothing.result (λ is. let l = ap length (is specs) in let n = nothing_long specs c.args.down in omega (arith, l, n)) c.put_nothing.ensures

pub put_kept-requires-clause-count : goal.put_kept-requires-clause-count
put_kept-requires-clause-count c =
    let s = c.args.sorted.source in
    let may = may_there s.specs.now s.more.now s.arena.now c.args.sorted.places.now c.requires.each c.requires.indexable c.args.before c.if-before-eq0.false (omega (arith, c.if-sorted-before.false)) c.separators_may_be_laid.ensures.splits in
    let count = c.split_between-kept.ensures.count in
    omega (arith, count, may.keeps.most)

pub put_kept-requires-clause-may : goal.put_kept-requires-clause-may
put_kept-requires-clause-may c =
    let s = c.args.sorted.source in
    let may = may_there s.specs.now s.more.now s.arena.now c.args.sorted.places.now c.requires.each c.requires.indexable c.args.before c.if-before-eq0.false (omega (arith, c.if-sorted-before.false)) c.separators_may_be_laid.ensures.splits in
    let front = front_is s.specs.now (at s.specs.now s.more.now s.arena.now c.args.sorted.places.now (c.args.before - 1)) (at s.specs.now s.more.now s.arena.now c.args.sorted.places.now c.args.before)
    c.split_between-kept.result c.split_between-kept.ensures.count c.split_between-kept.ensures.tid in
    subst (MaySplit s.specs.now) (sym front) may

pub returns-clause-item : goal.returns-clause-item
returns-clause-item c =
    let s = c.args.sorted.source in
    let front = front_is s.specs.now (at s.specs.now s.more.now s.arena.now c.args.sorted.places.now (c.args.before - 1)) (at s.specs.now s.more.now s.arena.now c.args.sorted.places.now c.args.before)
    c.split_between-kept.result c.split_between-kept.ensures.count c.split_between-kept.ensures.tid in
    let is = split_is s.specs.now s.more.now s.arena.now c.args.sorted.places.now c.requires.each c.requires.indexable c.args.before c.if-before-eq0.false (omega (arith, c.if-sorted-before.false)) in
    on_ok_weaker c.put_kept.result (λ laid. laid ∙ ap (pivot_item s.specs.now c.args.down) front
    ∙ ap (λ (o : Option (Separator Value Tid)). pivot_item s.specs.now c.args.down (unwrap_or o minus_infinity)) (sym is)) c.put_kept.ensures

pub returns-clause-short : goal.returns-clause-short
returns-clause-short c =
    let s = c.args.sorted.source in
    let front = front_is s.specs.now (at s.specs.now s.more.now s.arena.now c.args.sorted.places.now (c.args.before - 1)) (at s.specs.now s.more.now s.arena.now c.args.sorted.places.now c.args.before)
    c.split_between-kept.result c.split_between-kept.ensures.count c.split_between-kept.ensures.tid in
    let short = short_there s.specs.now s.more.now s.arena.now c.args.sorted.places.now c.requires.each c.requires.indexable c.args.before c.if-before-eq0.false (omega (arith, c.if-sorted-before.false)) c.separators_may_be_laid.ensures.short c.args.down in
    on_ok_weaker c.put_kept.result (λ laid. let l = ap length (laid ∙ ap (pivot_item s.specs.now c.args.down) front) in omega (arith, l, short)) c.put_kept.ensures
