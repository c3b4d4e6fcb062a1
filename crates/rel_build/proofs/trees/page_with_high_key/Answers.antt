use Rattle.std.proofs.Common.{◌≡◌, ◌+◌, ◌-◌, ◌*◌, ◌∷◌, ◌∙◌, ◌≤◌, [], ℕ, List, length, ap, sym, subst, arith}
use Rattle.rel_build.specs.Trees.{row_at, separator_before}
use Rattle.page_write.specs.Writing.{HoldsItems}
use Rattle.page_write.proofs.Laying.{room-none}
use Rattle.rel_build.proofs.Sizes.{high_none, high_some, length_separator}
use Rattle.rel_build.proofs.trees.page_with_high_key.Goals as goal

pub returns-then-is_last-clause-items : goal.returns-then-is_last-clause-items
returns-then-is_last-clause-items c =
    subst (HoldsItems c.tree-page.result 8176) (sym (high_none c.args.key c.args.rows.now c.args.k (sym c.is_last.ensures ∙ c.if-is_last.true))) c.tree-page.ensures

pub returns-then-is_last-clause-room : goal.returns-then-is_last-clause-room
returns-then-is_last-clause-room c =
    let lower = c.tree-page.ensures.lower in
    let upper = c.tree-page.ensures.upper in
    let none = room-none in
    omega (arith, lower, upper, none)

pub add-requires : goal.add-requires
add-requires c =
    let rows = c.args.rows.now in
    let k = c.args.k + 1 in
    let is : c.deref.result.now ≡ separator_before c.args.key rows 0 k = c.deref.ensures.value ∙ c.in_ok-put_separator_before.ensures in
    let size : length c.deref.result.now ≤ 24 =
    subst (λ (item : List ℕ). length item ≤ 24) (sym is) (length_separator c.args.key 0 (row_at rows (300 * k - 1)) (row_at rows (300 * k))) in
    let lower = c.tree-page.ensures.lower in
    let upper = c.tree-page.ensures.upper in
    let none = room-none in
    omega (arith, lower, upper, none, size)

pub returns-clause-items : goal.returns-clause-items
returns-clause-items c =
    let rows = c.args.rows.now in
    let is : c.deref.result.now ≡ separator_before c.args.key rows 0 (c.args.k + 1) = c.deref.ensures.value ∙ c.in_ok-put_separator_before.ensures in
    subst (HoldsItems c.add.new.self 8176)
    (ap (λ (item : List ℕ). item ∷ []) is ∙ sym (high_some c.args.key rows c.args.k (sym c.is_last.ensures ∙ c.if-is_last.false)))
    (c.add.ensures.items 8176 [] c.tree-page.ensures)

pub returns-clause-room : goal.returns-clause-room
returns-clause-room c =
    let rows = c.args.rows.now in
    let k = c.args.k + 1 in
    let is : c.deref.result.now ≡ separator_before c.args.key rows 0 k = c.deref.ensures.value ∙ c.in_ok-put_separator_before.ensures in
    let size : length c.deref.result.now ≤ 24 =
    subst (λ (item : List ℕ). length item ≤ 24) (sym is) (length_separator c.args.key 0 (row_at rows (300 * k - 1)) (row_at rows (300 * k))) in
    let lower = c.tree-page.ensures.lower in
    let upper = c.tree-page.ensures.upper in
    let none = room-none in
    let room = c.add.ensures.room in
    omega (arith, lower, upper, none, size, room)
