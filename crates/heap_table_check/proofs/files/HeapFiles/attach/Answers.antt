use Rattle.std.proofs.Common.{◌∙◌}
use Rattle.std.proofs.lemmas.Result.{err_from_is_err_and}
use Rattle.heap_table_check.specs.Case.{heap_blocks}
use Rattle.heap_table_check.proofs.Refusals.{heap_tells, none_tells, toast_tells}
use Rattle.heap_table_check.proofs.files.HeapFiles.attach.Goals as goal

pub returns-in_err-heap-clause-refusal : goal.returns-in_err-heap-clause-refusal
returns-in_err-heap-clause-refusal g c names told =
    let p = err_from_is_err_and c.from_residual.result c.from_residual.ensures.1 in
    rw (p.1, p.2) (heap_tells c.args.case.now names _ _ _ c.heap_file.ensures c.segment_blocks-size.ensures (c.in_err-heap.ensures.refusal names told))

pub returns-in_err-toast-clause-refusal : goal.returns-in_err-toast-clause-refusal
returns-in_err-toast-clause-refusal g c names told =
    let p = err_from_is_err_and c.from_residual-in_err-toast.result c.from_residual-in_err-toast.ensures.1 in
    rw (p.1, p.2) (toast_tells c.args.case.now names _ _ _ c.heap_file.ensures c.segment_blocks-size.ensures (c.in_ok-heap.ensures.refusal names told) (c.in_err-toast.ensures.refusal names (c.in_ok-map.ensures.asked.same ∙ (c.in_ok-heap.ensures.asked.same ∙ told))))

pub returns-clause-told : goal.returns-clause-told
unfolding heap_blocks
returns-clause-told g c names told = record {
  heap = rw (c.heap_file.ensures, c.segment_blocks-size.ensures) at (c.in_ok-heap.ensures.told names told);
  map =
      let count = c.blocks-2.ensures ∙ (rw (c.heap_file.ensures, c.segment_blocks-size.ensures) at (c.in_ok-heap.ensures.told names told)).count in
      rw (c.heap_file-2.ensures, c.segment_blocks-size.ensures, count) at (c.in_ok-map.ensures.told names (c.in_ok-heap.ensures.asked.same ∙ told));
  toast = c.in_ok-toast.ensures.told names (c.in_ok-map.ensures.asked.same ∙ (c.in_ok-heap.ensures.asked.same ∙ told));
}

pub returns-clause-refusal : goal.returns-clause-refusal
returns-clause-refusal g c names told =
    none_tells c.args.case.now names _ _ c.heap_file.ensures c.segment_blocks-size.ensures (c.in_ok-heap.ensures.refusal names told) (c.in_ok-toast.ensures.refusal names (c.in_ok-map.ensures.asked.same ∙ (c.in_ok-heap.ensures.asked.same ∙ told)))
