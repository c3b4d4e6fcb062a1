use Rattle.std.proofs.Common.{◌≡◌, ℕ, suc, ◌+◌, ◌-◌, ◌/◌, ◌<◌, ◌≤◌, List, Bool, true, false, get_or, length, subst, ap, ◌∙◌, arith}
use Rattle.std.specs.Int.{div_ceil}
use Rattle.page_layout.specs.Page.{item_of, upper_of}
use Rattle.page_layout.specs.View.{page_bytes}
use Rattle.page_layout.specs.declared.page.LinePtr.{LinePtr}
use Rattle.heap_page_check.proofs.Meeting.{added, meets_by_cells, placed}
use Rattle.heap_page_check.specs.Storage.{AreMarked, IsTakenBetween, has_storage, meets_item_below, taken_with}
use Rattle.heap_page_check.proofs.storage.mark_item.Goals as goal

rounded : (n : ℕ) → div_ceil n 8 ≡ (n + 7) / 8
rounded n = omega arith

pub take_cells-requires-clause-within : goal.take_cells-requires-clause-within
take_cells-requires-clause-within c =
    let at = placed _ _ c.requires.storage in
    let end = c.div_ceil-end.ensures ∙ rounded _ in
    let same : c.item-item.result.off + c.item-item.result.len ≡ (item_of (page_bytes c.args.page) c.args.i).off + (item_of (page_bytes c.args.page) c.args.i).len = ap (λ (p : LinePtr). p.off + p.len) c.item-item.ensures.value in
    omega (arith, end, same, at.within, c.requires.before.long)

meets : (page : List ℕ) (i : ℕ) (old : List Bool) (p : LinePtr) (was : Bool) (end : ℕ) → p ≡ item_of page i → end ≡ div_ceil (p.off + p.len) 8 → has_storage (upper_of page) (item_of page i) ≡ true → AreMarked page (i - 1) old → (was ≡ true → IsTakenBetween old (p.off / 8) end) → (was ≡ false → (k : ℕ) → p.off / 8 ≤ k → k < end → get_or old k false ≡ false) → was ≡ meets_item_below page (i - 1) (item_of page i)
meets page i old p was end it ends storage are found none =
    let stop : end ≡ (p.off + p.len + 7) / 8 = ends ∙ rounded _ in
    rw (← it) (meets_by_cells page (i - 1) old p was (rw it storage) are (rw (← stop) found) (rw (← stop) none))

pub returns-clause-meets : goal.returns-clause-meets
returns-clause-meets c = meets _ _ _ _ _ _ c.item-item.ensures.value c.div_ceil-end.ensures c.requires.storage c.requires.before c.take_cells.ensures.found c.take_cells.ensures.none

after : (page : List ℕ) (i : ℕ) (old new : List Bool) (p : LinePtr) (end : ℕ) → 1 ≤ i → p ≡ item_of page i → end ≡ div_ceil (p.off + p.len) 8 → has_storage (upper_of page) (item_of page i) ≡ true → AreMarked page (i - 1) old → length new ≡ length old → ((k : ℕ) → get_or new k false ≡ taken_with old (p.off / 8) end k) → AreMarked page i new
after page i old new p end some it ends storage are long taken =
    let stop : end ≡ ((item_of page i).off + (item_of page i).len + 7) / 8 = ends ∙ rounded _ ∙ ap (λ (q : LinePtr). (q.off + q.len + 7) / 8) it in
    let number : suc (i - 1) ≡ i = omega arith in
    let P : ℕ → Type 0 = λ j. has_storage (upper_of page) (item_of page j) ≡ true → ((k : ℕ) → get_or new k false ≡ taken_with old ((item_of page j).off / 8) (((item_of page j).off + (item_of page j).len + 7) / 8) k) → AreMarked page j new in
    subst P number (λ kept all. added page (i - 1) old new kept are long all) storage (rw (it, stop) at taken)

pub returns-clause-after : goal.returns-clause-after
returns-clause-after c = after _ _ _ _ _ _ c.requires.first c.item-item.ensures.value c.div_ceil-end.ensures c.requires.storage c.requires.before c.take_cells.ensures.long c.take_cells.ensures.now
