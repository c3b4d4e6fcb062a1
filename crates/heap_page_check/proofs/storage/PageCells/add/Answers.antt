use Rattle.std.proofs.Common.{◌≡◌, ◌+◌, ◌-◌, ◌≤◌, ℕ, false, List, sym, ap, arith}
use Rattle.page_layout.specs.Page.{item_of}
use Rattle.page_layout.specs.declared.page.LinePtr.{LinePtr}
use Rattle.heap_page_check.specs.Storage.{AreAbove, Marking, meets_item_below}
use Rattle.heap_page_check.proofs.Meeting.{meets_none_above}
use Rattle.heap_page_check.proofs.Overlaps.{meeting_told}
use Rattle.heap_page_check.proofs.storage.PageCells.add.Goals as goal

apart : (page : List ℕ) (i lowest inside : ℕ) (p : LinePtr) → p ≡ item_of page i → inside ≡ lowest → p.off + p.len ≤ inside → AreAbove page (i - 1) lowest → false ≡ meets_item_below page (i - 1) (item_of page i)
apart page i lowest inside p it same ends above =
    let whole : p.off + p.len ≡ (item_of page i).off + (item_of page i).len = ap (λ (q : LinePtr). q.off + q.len) it in
    sym (meets_none_above page (i - 1) lowest (item_of page i) (omega (arith, whole, same, ends)) above)

pub returns-then-item-self-clause-meets : goal.returns-then-item-self-clause-meets
returns-then-item-self-clause-meets c =
    apart _ _ _ _ _ c.item-item.ensures.value (ap (λ (m : Marking). m.lowest) c.self.view_is) c.if-item-self.true c.requires.before.above

pub returns-then-item-self-clause-overlaps : goal.returns-then-item-self-clause-overlaps
returns-then-item-self-clause-overlaps c =
    meeting_told _ _ _ c.requires.storage (apart _ _ _ _ _ c.item-item.ensures.value (ap (λ (m : Marking). m.lowest) c.self.view_is) c.if-item-self.true c.requires.before.above)

pub returns-clause-overlaps : goal.returns-clause-overlaps
returns-clause-overlaps c = meeting_told _ _ _ c.requires.storage c.add_above.ensures.meets
