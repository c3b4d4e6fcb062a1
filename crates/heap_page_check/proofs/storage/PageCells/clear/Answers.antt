use Rattle.std.proofs.Common.{◌≡◌, List, Bool, length, refl, subst, sym, ap, arith}
use Rattle.std.proofs.lemmas.List.{with_items_is}
use Rattle.heap_page_check.proofs.Meeting.{free_at_first, none_added}
use Rattle.heap_page_check.specs.Storage.{AreMarked}
use Rattle.heap_page_check.proofs.storage.PageCells.clear.Goals as goal
use Rattle.heap_page_check.proofs.storage.PageCells.clear.Goals.{then-self-ne0, else-self-ne0}

pub returns : goal.returns
returns c page = none_added page _ refl refl (elim c.if-self-ne0.branch [
  | then-self-ne0 w ↦
      let same : length w.free_cells.new.cells ≡ c.self.inside.taken.len = omega (arith, w.free_cells.auto.cells, w.deref_mut.ensures.len) in
      let long : length w.free_cells.new.cells ≡ 1024 = omega (arith, same, c.self.inside.taken.ok.0, c.self.invariant.0) in
      subst (λ (cells : List Bool). AreMarked page 0 cells) (sym (ap (λ p. p.taken.items) w.self-inside-is))
      (subst (λ (cells : List Bool). AreMarked page 0 cells) (sym (with_items_is c.self.inside.taken w.free_cells.new.cells same)) (free_at_first page w.free_cells.new.cells long w.free_cells.ensures))
  | else-self-ne0 w ↦
      subst (λ (cells : List Bool). AreMarked page 0 cells) (sym (ap (λ p. p.taken.items) w.self-inside-is))
      (free_at_first page c.self.inside.taken.items c.self.invariant.0 (c.self.invariant.1 w.if-self-ne0.false))
])
