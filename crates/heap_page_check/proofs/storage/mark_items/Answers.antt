use Rattle.std.proofs.Common.{◌≡◌, ◌+◌, List, Bool, subst, sym, ap}
use Rattle.page_layout.specs.Page.{header_of, upper_of}
use Rattle.page_layout.specs.View.{page_bytes}
use Rattle.page_layout.specs.declared.page.PageHeader.{PageHeader}
use Rattle.heap_page_check.proofs.Meeting.{unmarked_next}
use Rattle.heap_page_check.specs.Storage.{AreMarked}
use Rattle.heap_page_check.proofs.storage.mark_items.Goals as goal
use Rattle.heap_page_check.proofs.storage.mark_items.Goals.{then-has_storage, else-has_storage}

pub loop-k-preserved : goal.loop-k-preserved
unfolding header_of
loop-k-preserved c =
    let upper : c.header-upper.result.upper ≡ upper_of (page_bytes c.args.page) = ap (λ (h : PageHeader). h.upper) c.header-upper.ensures in
    elim c.if-has_storage.branch [
      | then-has_storage w ↦ subst (λ (cells : List Bool). AreMarked (page_bytes c.args.page) (c.loop-k.k + 1) cells) (sym w.cells-is) w.mark_item.ensures.after
      | else-has_storage w ↦ subst (λ (cells : List Bool). AreMarked (page_bytes c.args.page) (c.loop-k.k + 1) cells) (sym w.cells-is) (unmarked_next _ c.loop-k.k _ _ _ _ upper c.item.ensures.value c.has_storage.ensures w.if-has_storage.false c.loop-k.invariant)
    ]
