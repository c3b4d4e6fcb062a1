use Rattle.std.proofs.Common.{◌≡◌, length, ap, arith}
use Rattle.tuple_head.specs.declared.HeapHead.{HeapHead}
use Rattle.tuple_head.specs.Head.{tuple_head_of}
use Rattle.heap_tuples.proofs.Placed.{placed}
use Rattle.heap_tuples.proofs.attributes.try_read_tuple.Goals.{then-hoff-lt23-via-then-hoff-lt23, then-hoff-lt23-via-else-hoff-lt23+then-tuple-hoff}
use Rattle.heap_tuples.proofs.attributes.try_read_tuple.Goals as goal

pub returns-then-hoff-lt23-clause-read : goal.returns-then-hoff-lt23-clause-read
returns-then-hoff-lt23-clause-read c = λ h list is.
    let fits = placed (length c.args.tuple.now) (tuple_head_of c.args.tuple.now) h in
    let hoff : c.heap_head-head.result.hoff ≡ (tuple_head_of c.args.tuple.now).hoff = ap (λ (d : HeapHead). d.hoff) c.heap_head-head.ensures in
    elim c.then-hoff-lt23.branch [ then-hoff-lt23-via-then-hoff-lt23 w ↦ absurd (omega (arith, fits.0, fits.1, hoff)) | then-hoff-lt23-via-else-hoff-lt23+then-tuple-hoff w ↦ absurd (omega (arith, fits.0, fits.1, hoff)) ]
