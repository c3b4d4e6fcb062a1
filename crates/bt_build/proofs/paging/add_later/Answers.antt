use Rattle.std.proofs.Common.{◌∙◌, ◌∷◌, ℕ, List, suc, ap, arith, drop, sym}
use Rattle.bt_build.specs.Laid.{later_tuples}
use Rattle.bt_build.specs.Source.{entries_sorted}
use Rattle.bt_build.proofs.PutLaws.{all_put, many_downlinks, next_downlink, next_put, next_room, none_put}
use Rattle.bt_build.proofs.paging.add_later.Goals as goal

pub loop-i-init : goal.loop-i-init
loop-i-init c = none_put c.args.page.now (later_tuples c.args.sorted.source.specs.now (entries_sorted c.args.sorted) c.args.bounds.now c.args.first) c.requires.room

pub add-requires : goal.add-requires
add-requires c =
    let s = c.args.sorted.source in
    let es = entries_sorted c.args.sorted in
    let laid = c.deref.ensures.value ∙ c.in_ok-put_separator.ensures.item in
    let is = next_downlink s.specs.now s.more.now es c.args.bounds.now c.loop-i.i c.args.first 0 c.loop-i-test.true ∙ ap (λ (t : List ℕ). t ∷ drop (suc c.loop-i.i) (later_tuples c.args.sorted.source.specs.now (entries_sorted c.args.sorted) c.args.bounds.now c.args.first)) (sym laid) in
    next_room c.args.page.now c.loop-i.page (later_tuples c.args.sorted.source.specs.now (entries_sorted c.args.sorted) c.args.bounds.now c.args.first) c.loop-i.i c.deref.result.now c.loop-i.invariant is

pub loop-i-preserved : goal.loop-i-preserved
loop-i-preserved c =
    let s = c.args.sorted.source in
    let es = entries_sorted c.args.sorted in
    let laid = c.deref.ensures.value ∙ c.in_ok-put_separator.ensures.item in
    let is = next_downlink s.specs.now s.more.now es c.args.bounds.now c.loop-i.i c.args.first 0 c.loop-i-test.true ∙ ap (λ (t : List ℕ). t ∷ drop (suc c.loop-i.i) (later_tuples c.args.sorted.source.specs.now (entries_sorted c.args.sorted) c.args.bounds.now c.args.first)) (sym laid) in
    next_put c.args.page.now c.loop-i.page (later_tuples c.args.sorted.source.specs.now (entries_sorted c.args.sorted) c.args.bounds.now c.args.first) c.loop-i.i c.deref.result.now c.loop-i.invariant is c.add.new.self (c.add.ensures.items 8176) c.add.ensures.room

pub returns : goal.returns
returns c =
    let many = many_downlinks c.args.sorted.source.specs.now c.args.sorted.source.more.now (entries_sorted c.args.sorted) c.args.bounds.now c.args.first in
    all_put c.args.page.now c.loop-i.page (later_tuples c.args.sorted.source.specs.now (entries_sorted c.args.sorted) c.args.bounds.now c.args.first) c.loop-i.i c.loop-i.invariant (omega (arith, many, c.loop-i-test.false))
