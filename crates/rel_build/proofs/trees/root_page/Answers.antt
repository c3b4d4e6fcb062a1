use Rattle.std.proofs.Common.{◌≡◌, ◌∷◌, ◌++◌, ◌∙◌, ◌≤◌, [], ℕ, List, length, ap, sym, subst, arith}
use Rattle.rel_build.specs.Trees.{root_item, root_items, root_items_below}
use Rattle.page_write.specs.Writing.{HoldsItems}
use Rattle.page_write.proofs.Laying.{room-none}
use Rattle.rel_build.proofs.Parts.{parts_next, parts_none}
use Rattle.rel_build.proofs.Sizes.{length_root_item}
use Rattle.rel_build.proofs.trees.root_page.Goals as goal

pub loop-k-init : goal.loop-k-init
loop-k-init c =
    let lower = c.tree-page.ensures.lower in
    let upper = c.tree-page.ensures.upper in
    let none = room-none in (
      subst (HoldsItems c.tree-page.result 8176) (sym (parts_none (λ (k : ℕ). root_item c.args.key c.args.rows.now k ∷ []))) c.tree-page.ensures,
      omega (arith, lower, upper, none),
    )

pub add-requires : goal.add-requires
add-requires c =
    let is : c.deref.result.now ≡ root_item c.args.key c.args.rows.now c.loop-k.k = c.deref.ensures.value ∙ c.in_ok-put_root_item.ensures in
    let size : length c.deref.result.now ≤ 24 =
    subst (λ (item : List ℕ). length item ≤ 24) (sym is) (length_root_item c.args.key c.args.rows.now c.loop-k.k) in
    let free = c.loop-k.invariant.1 in
    let most = c.leaves_for-k-end.ensures.most in
    let here = c.loop-k-test.true in
    omega (arith, size, free, most, here)

pub loop-k-preserved : goal.loop-k-preserved
loop-k-preserved c =
    let key = c.args.key in
    let rows = c.args.rows.now in
    let k = c.loop-k.k in
    let is : c.deref.result.now ≡ root_item key rows k = c.deref.ensures.value ∙ c.in_ok-put_root_item.ensures in
    let size : length c.deref.result.now ≤ 24 =
    subst (λ (item : List ℕ). length item ≤ 24) (sym is) (length_root_item key rows k) in
    let free = c.loop-k.invariant.1 in
    let room = c.add.ensures.room in (
      subst (HoldsItems c.add.new.self 8176)
          (ap (λ (item : List ℕ). root_items_below key rows k ++ item ∷ []) is ∙ sym (parts_next (λ (j : ℕ). root_item key rows j ∷ []) k))
          (c.add.ensures.items 8176 (root_items_below key rows k) c.loop-k.invariant.0),
      omega (arith, size, free, room),
    )

pub returns : goal.returns
unfolding root_items
returns c =
    let count = c.leaves_for-k-end.ensures.count in
    let end : c.loop-k.k ≡ c.leaves_for-k-end.result = omega arith in
    c.tree_page.ensures (root_items c.args.key c.args.rows.now)
    (subst (HoldsItems c.loop-k.page 8176) (ap (root_items_below c.args.key c.args.rows.now) (end ∙ count)) c.loop-k.invariant.0)
