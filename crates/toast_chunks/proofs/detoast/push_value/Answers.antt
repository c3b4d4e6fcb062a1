use Rattle.std.proofs.Common.{◌<◌, ap, ◌∙◌, arith}
use Rattle.outside.proofs.Asking.{PassedAtMost-next}
use Rattle.toast_chunks.specs.Pointer.{chunk_count, stored_size}
use Rattle.toast_chunks.proofs.Joining.{grown, joined_all, joined_next, none_not_found}
use Rattle.toast_chunks.proofs.detoast.push_value.Goals.{in-Some+in_ok-push_chunk-in-Some, in-None}
use Rattle.toast_chunks.proofs.detoast.push_value.Goals as goal

pub loop-k-preserved : goal.loop-k-preserved
loop-k-preserved g c =
    let count = c.chunk_count-k-end.ensures.count ∙ ap chunk_count c.stored_size.ensures.size in
    let lt : c.loop-k.k < chunk_count (stored_size c.args.p) = omega (arith, count, c.loop-k-test.true) in
    elim c.match-find.branch [
      | in-Some+in_ok-push_chunk-in-Some w ↦ record {
        bytes = λ names told.
            rw w.bytes-is (joined_next names c.args.toast.now c.args.map.now c.args.p c.loop-k.k w.in-Some.chunk c.args.bytes.now.items c.loop-k.bytes.items w.push_chunk.new.bytes.items c.requires.whole lt (c.requires.stand names told) w.in-Some.ensures (w.in_ok-push_chunk-in-Some.ensures.bytes names (c.loop-k.invariant.asked.same ∙ told)) (c.loop-k.invariant.bytes names told));
        grows = rw w.bytes-is (grown c.args.bytes.now.items c.loop-k.bytes.items w.push_chunk.new.bytes.items c.loop-k.invariant.grows w.in_ok-push_chunk-in-Some.ensures.grows);
        hand = λ names told. rw (w.in_hand-is, w.reader-is) (w.in_ok-push_chunk-in-Some.ensures.hand names (c.loop-k.invariant.asked.same ∙ told));
        asked = rw w.files-is (PassedAtMost-next 1 c.loop-k.k c.loop-k.invariant.asked w.in_ok-push_chunk-in-Some.ensures.asked);
      }
      | in-None w ↦ absurd (none_not_found c.args.map.now c.args.p c.loop-k.k c.requires.whole lt w.in-None.ensures)
    ]

pub returns-clause-bytes : goal.returns-clause-bytes
returns-clause-bytes g c = λ names told.
    let count = c.chunk_count-k-end.ensures.count ∙ ap chunk_count c.stored_size.ensures.size in
    joined_all names c.args.toast.now c.args.map.now c.args.p c.loop-k.k c.args.bytes.now.items c.loop-k.bytes.items (omega (arith, count, c.loop-k-test.false, c.loop-k.auto.k-end)) (c.loop-k.invariant.bytes names told)
