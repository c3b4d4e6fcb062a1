use Rattle.std.proofs.Common.{◌≤◌, subst, sym, arith}
use Rattle.tuple_head.specs.declared.HeapHead.{HeapHead}
use Rattle.rel_build.specs.Rows.{row_head}
use Rattle.rel_build.proofs.table.put_row.Goals as goal

pub put_heap_tuple-requires : goal.put_heap_tuple-requires
unfolding row_head
put_heap_tuple-requires c = subst (λ (h : HeapHead). 23 ≤ h.hoff) (sym c.row_head.ensures) (omega arith)
