use Rattle.std.proofs.Common.{◌≡◌, length, ap, arith}
use Rattle.tuple_head.specs.declared.HeapHead.{HeapHead}
use Rattle.tuple_head.specs.Head.{tuple_head_of}
use Rattle.heap_tuples.proofs.Placed.{placed}
use Rattle.heap_tuples.proofs.attributes.tuple_columns.Goals.{then-tuple-hoff-via-then-tuple-hoff, then-tuple-hoff-via-else-tuple-hoff+then-hoff-lt23}
use Rattle.heap_tuples.proofs.attributes.tuple_columns.Goals as goal

pub returns-then-tuple-hoff-clause-some : goal.returns-then-tuple-hoff-clause-some
returns-then-tuple-hoff-clause-some c = λ h.
    let fits = placed (length c.args.tuple.now) (tuple_head_of c.args.tuple.now) h in
    let hoff : c.heap_head-head.result.hoff ≡ (tuple_head_of c.args.tuple.now).hoff = ap (λ (d : HeapHead). d.hoff) c.heap_head-head.ensures in
    elim c.then-tuple-hoff.branch [
      | then-tuple-hoff-via-then-tuple-hoff w ↦ absurd (omega (arith, w.if-tuple-hoff.true, fits.0, fits.1, hoff))
      | then-tuple-hoff-via-else-tuple-hoff+then-hoff-lt23 w ↦ absurd (omega (arith, w.if-hoff-lt23.true, fits.0, fits.1, hoff))
    ]
