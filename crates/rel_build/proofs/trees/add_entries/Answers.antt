use Rattle.std.proofs.Common.{◌≡◌, ◌∷◌, ◌++◌, ◌∙◌, [], ℕ, List, length, map, take, ap, sym, subst, arith, append_assoc}
use Rattle.std.proofs.lemmas.List.{take_all}
use Rattle.rel_build.specs.declared.rows.Row.{Row}
use Rattle.rel_build.specs.Trees.{leaf_item, no_row, row_at}
use Rattle.page_write.specs.Writing.{HoldsItems}
use Rattle.rel_build.proofs.Parts.{map_next}
use Rattle.rel_build.proofs.Sizes.{length_leaf_item}
use Rattle.rel_build.proofs.trees.add_entries.Goals as goal

pub add-requires : goal.add-requires
add-requires c =
    let row = row_at c.args.rows.now c.loop-row.row-index in
    let is : c.deref.result.now ≡ leaf_item c.args.key row = c.deref.ensures.value ∙ c.in_ok-put_entry.ensures in
    let size : length c.deref.result.now ≡ 16 = ap (λ (item : List ℕ). length item) is ∙ length_leaf_item c.args.key row in
    let free = c.loop-row.invariant.1 in
    let few = c.requires in
    let here = c.loop-row-test.true in
    omega (arith, size, free, few, here)

pub loop-row-preserved : goal.loop-row-preserved
loop-row-preserved c =
    let rows = c.args.rows.now in
    let key = c.args.key in
    let k = c.loop-row.row-index in
    let row = row_at rows k in
    let is : c.deref.result.now ≡ leaf_item key row = c.deref.ensures.value ∙ c.in_ok-put_entry.ensures in
    let size : length c.deref.result.now ≡ 16 = ap (λ (item : List ℕ). length item) is ∙ length_leaf_item key row in
    let free = c.loop-row.invariant.1 in
    let room = c.add.ensures.room in
    let done : List (List ℕ) = map (leaf_item key) (take k rows) in (
      λ items holds.
          subst (HoldsItems c.add.new.self 8176)
          (ap (λ (item : List ℕ). items ++ done ++ item ∷ []) is
          ∙ append_assoc items done (leaf_item key row ∷ [])
          ∙ ap (λ (more : List (List ℕ)). items ++ more) (sym (map_next (leaf_item key) rows k no_row c.loop-row-test.true)))
          (c.add.ensures.items 8176 (items ++ done) (c.loop-row.invariant.0 items holds)),
      omega (arith, size, free, room),
    )

pub returns : goal.returns
returns c = λ items holds.
    let end = c.loop-row-test.false in
    subst (HoldsItems c.loop-row.page 8176)
    (ap (λ (rows : List Row). items ++ map (leaf_item c.args.key) rows) (take_all c.loop-row.row-index c.args.rows.now (omega (arith, end))))
    (c.loop-row.invariant.0 items holds)
