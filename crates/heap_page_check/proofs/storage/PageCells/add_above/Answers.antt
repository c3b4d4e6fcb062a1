use Rattle.std.proofs.Common.{◌≡◌, ◌+◌, ◌-◌, ◌<◌, ℕ, true, List, sym, ap, arith}
use Rattle.page_layout.specs.Page.{item_of, upper_of}
use Rattle.page_layout.specs.View.{page_bytes}
use Rattle.page_layout.specs.declared.page.LinePtr.{LinePtr}
use Rattle.heap_page_check.specs.Storage.{LiesBetween, Marking, has_storage, meets_item_below}
use Rattle.heap_page_check.proofs.Meeting.{meets_lowest, placed}
use Rattle.heap_page_check.proofs.storage.PageCells.add_above.Goals as goal

pub overflow_add-self : goal.overflow_add-self
overflow_add-self c =
    let within = (placed _ _ c.requires.storage).within in
    let same : c.args.item.off + c.args.item.len ≡ (item_of (page_bytes c.args.page) c.args.i).off + (item_of (page_bytes c.args.page) c.args.i).len = ap (λ (p : LinePtr). p.off + p.len) c.requires.item in
    omega (arith, within, same)

meets : (page : List ℕ) (i lowest end : ℕ) (p : LinePtr) → p ≡ item_of page i → has_storage (upper_of page) (item_of page i) ≡ true → (0 < end → LiesBetween page (i - 1) lowest end) → lowest < p.off + p.len → p.off < end → true ≡ meets_item_below page (i - 1) (item_of page i)
meets page i lowest end p it storage lies above below =
    let long = (placed _ _ storage).long in
    let off : p.off ≡ (item_of page i).off = ap (λ (q : LinePtr). q.off) it in
    let ends : p.off + p.len ≡ (item_of page i).off + (item_of page i).len = ap (λ (q : LinePtr). q.off + q.len) it in
    sym (meets_lowest page (i - 1) lowest end (item_of page i) (lies (omega (arith, below))) (omega (arith, above, ends)) (omega (arith, below, off)) (omega (arith, long)))

pub returns-then-item-self-clause-meets : goal.returns-then-item-self-clause-meets
returns-then-item-self-clause-meets c =
    let same : c.self.inside.end ≡ c.args.self.now.end = ap (λ (m : Marking). m.end) c.self.view_is in
    meets _ _ _ _ _ c.requires.item c.requires.storage c.requires.before.lies c.requires.ends (omega (arith, same, c.if-self-item.false))

pub returns-else-item-self-clause-meets : goal.returns-else-item-self-clause-meets
returns-else-item-self-clause-meets c =
    let same : c.self.inside.end ≡ c.args.self.now.end = ap (λ (m : Marking). m.end) c.self.view_is in
    meets _ _ _ _ _ c.requires.item c.requires.storage c.requires.before.lies c.requires.ends (omega (arith, same, c.if-self-item.false))
