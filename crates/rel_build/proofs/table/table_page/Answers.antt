use Rattle.std.proofs.Common.{◌≡◌, ◌∷◌, ◌++◌, ◌∙◌, [], ℕ, List, length, map, take, ap, sym, subst, arith}
use Rattle.std.proofs.lemmas.List.{take_all}
use Rattle.rel_build.specs.declared.rows.Row.{Row}
use Rattle.rel_build.specs.Rows.{row_tuple}
use Rattle.rel_build.specs.Trees.{no_row, row_at}
use Rattle.page_write.specs.Writing.{HoldsItems}
use Rattle.page_write.proofs.Laying.{room-none}
use Rattle.rel_build.proofs.Parts.{map_next}
use Rattle.rel_build.proofs.Sizes.{length_row}
use Rattle.rel_build.proofs.table.table_page.Goals as goal

pub loop-row-init : goal.loop-row-init
loop-row-init c =
    let lower = c.heap-page.ensures.lower in
    let upper = c.heap-page.ensures.upper in
    let none = room-none in
    (c.heap-page.ensures, omega (arith, lower, upper, none))

pub add-requires : goal.add-requires
add-requires c =
    let row = row_at c.args.rows.now c.loop-row.row-index in
    let is : c.deref.result.now ≡ row_tuple row = c.deref.ensures.value ∙ c.in_ok-put_row.ensures in
    let size : length c.deref.result.now ≡ 36 = ap (λ (item : List ℕ). length item) is ∙ length_row row in
    let free = c.loop-row.invariant.1 in
    let few = c.requires in
    let here = c.loop-row-test.true in
    omega (arith, size, free, few, here)

pub loop-row-preserved : goal.loop-row-preserved
loop-row-preserved c =
    let rows = c.args.rows.now in
    let k = c.loop-row.row-index in
    let row = row_at rows k in
    let is : c.deref.result.now ≡ row_tuple row = c.deref.ensures.value ∙ c.in_ok-put_row.ensures in
    let size : length c.deref.result.now ≡ 36 = ap (λ (item : List ℕ). length item) is ∙ length_row row in
    let free = c.loop-row.invariant.1 in
    let room = c.add.ensures.room in
    let done : List (List ℕ) = map row_tuple (take k rows) in (
      subst (HoldsItems c.add.new.self 8192)
          (ap (λ (item : List ℕ). done ++ item ∷ []) is ∙ sym (map_next row_tuple rows k no_row c.loop-row-test.true))
          (c.add.ensures.items 8192 done c.loop-row.invariant.0),
      omega (arith, size, free, room),
    )

pub returns : goal.returns
returns c =
    let end = c.loop-row-test.false in
    c.heap_page.ensures (map row_tuple c.args.rows.now)
    (subst (HoldsItems c.loop-row.page 8192)
    (ap (λ (rows : List Row). map row_tuple rows) (take_all c.loop-row.row-index c.args.rows.now (omega (arith, end))))
    c.loop-row.invariant.0)
