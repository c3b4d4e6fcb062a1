use Rattle.std.proofs.Common.{◌≡◌, sym, ◌∙◌, to_z, of_z, w32}
use Rattle.std.proofs.lemmas.Int.{to_z-of_z}
use Rattle.toast_chunks.proofs.Unfit.{below_zero_never, none_seen, not_below_zero, twice_never, unsized_never}
use Rattle.toast_chunks.proofs.value_chunks.ValueChunks.with.Goals.{then-again-via-then-again, then-again-via-else-again+then-seq-lt0}
use Rattle.toast_chunks.proofs.value_chunks.ValueChunks.with.Goals as goal

pub returns-in_default : goal.returns-in_default
returns-in_default c = λ chunks d kept seq size seen.
    unsized_never chunks d (size ∙ c.in_default.is)

pub returns-then-again : goal.returns-then-again
returns-then-again c = λ chunks d kept seq size seen.
    let same : to_z w32 (of_z w32 c.args.seq) ≡ c.args.seq = to_z-of_z w32 c.args.seq c.ranges.seq in
    elim c.then-again.branch [
      | then-again-via-then-again w ↦ twice_never chunks d (seen.0 w.if-again.true)
      | then-again-via-else-again+then-seq-lt0 w ↦
          below_zero_never chunks d c.args.seq seq (rw same at w.if-seq-lt0.true)
    ]

pub returns : goal.returns
returns c = λ chunks d kept seq size seen.
    let same : to_z w32 (of_z w32 c.args.seq) ≡ c.args.seq = to_z-of_z w32 c.args.seq c.ranges.seq in
    let number = not_below_zero (to_z w32 (of_z w32 c.args.seq)) c.if-seq-lt0.false in
    c.with_fit.ensures chunks d kept (seq ∙ sym same ∙ number) (size ∙ c.in-Some.is) (none_seen _ c.args.again seen.1 c.if-again.false)
