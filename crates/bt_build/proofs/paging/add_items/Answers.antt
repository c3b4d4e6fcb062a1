use Rattle.std.proofs.Common.{◌∙◌, ◌∷◌, ℕ, List, suc, ap, arith, drop, sym}
use Rattle.std.proofs.lemmas.List.{length-map}
use Rattle.laws_built_index.specs.Items.{leaf_item}
use Rattle.bt_build.specs.declared.groups.Item.{Item}
use Rattle.bt_build.specs.Groups.{entries_in}
use Rattle.bt_build.specs.Laid.{leaf_tuples}
use Rattle.bt_build.specs.Source.{entries_sorted}
use Rattle.bt_build.proofs.PutLaws.{all_put, next_leaf_item, next_put, next_room, none_put}
use Rattle.bt_build.proofs.paging.add_items.Goals as goal

pub loop-i-init : goal.loop-i-init
loop-i-init c = none_put c.args.page.now (leaf_tuples c.args.sorted.source.specs.now c.args.sorted.source.more.now (entries_sorted c.args.sorted) c.args.items.now) c.requires.room

pub add-requires : goal.add-requires
add-requires c =
    let s = c.args.sorted.source in
    let es = entries_sorted c.args.sorted in
    let laid = c.deref.ensures.value ∙ c.in_ok-put_item.ensures in
    let is = next_leaf_item s.specs.now s.more.now es c.args.items.now c.loop-i.i _ c.loop-i-test.true ∙ ap (λ (t : List ℕ). t ∷ drop (suc c.loop-i.i) (leaf_tuples c.args.sorted.source.specs.now c.args.sorted.source.more.now (entries_sorted c.args.sorted) c.args.items.now)) (sym laid) in
    next_room c.args.page.now c.loop-i.page (leaf_tuples c.args.sorted.source.specs.now c.args.sorted.source.more.now (entries_sorted c.args.sorted) c.args.items.now) c.loop-i.i c.deref.result.now c.loop-i.invariant is

pub loop-i-preserved : goal.loop-i-preserved
loop-i-preserved c =
    let s = c.args.sorted.source in
    let es = entries_sorted c.args.sorted in
    let laid = c.deref.ensures.value ∙ c.in_ok-put_item.ensures in
    let is = next_leaf_item s.specs.now s.more.now es c.args.items.now c.loop-i.i _ c.loop-i-test.true ∙ ap (λ (t : List ℕ). t ∷ drop (suc c.loop-i.i) (leaf_tuples c.args.sorted.source.specs.now c.args.sorted.source.more.now (entries_sorted c.args.sorted) c.args.items.now)) (sym laid) in
    next_put c.args.page.now c.loop-i.page (leaf_tuples c.args.sorted.source.specs.now c.args.sorted.source.more.now (entries_sorted c.args.sorted) c.args.items.now) c.loop-i.i c.deref.result.now c.loop-i.invariant is c.add.new.self (c.add.ensures.items 8176) c.add.ensures.room

pub returns : goal.returns
returns c =
    let many = length-map c.args.items.now (λ (item : Item). leaf_item c.args.sorted.source.specs.now c.args.sorted.source.more.now (entries_in (entries_sorted c.args.sorted) item)) in
    all_put c.args.page.now c.loop-i.page (leaf_tuples c.args.sorted.source.specs.now c.args.sorted.source.more.now (entries_sorted c.args.sorted) c.args.items.now) c.loop-i.i c.loop-i.invariant (omega (arith, many, c.loop-i-test.false))
