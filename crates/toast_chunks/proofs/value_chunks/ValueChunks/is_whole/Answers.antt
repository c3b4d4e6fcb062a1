use Rattle.std.proofs.Common.{◌≡◌, sym, ap, subst, ◌∙◌, inl, inr, arith}
use Rattle.std.specs.Prelude.{◌==◌, nat_lt}
use Rattle.std.proofs.lemmas.Bool.{eq-eqb, eqb-true, lt-ltb, ltb-true}
use Rattle.toast_chunks.specs.declared.value_chunks.ValueChunks.{ValueChunks}
use Rattle.toast_chunks.specs.Pointer.{chunk_count, chunk_size, stored_size}
use Rattle.toast_chunks.specs.ValueChunks.{Describes}
use Rattle.toast_chunks.proofs.Fitting.{empty_test, fit_test, unfit_test, whole_last, whole_test}
use Rattle.toast_chunks.proofs.value_chunks.ValueChunks.is_whole.Goals.{then-count-chunk_count, else-count-chunk_count}
use Rattle.toast_chunks.proofs.value_chunks.ValueChunks.is_whole.Goals as goal

pub returns-in-Empty : goal.returns-in-Empty
returns-in-Empty c = λ chunks p kept same.
    let P : ValueChunks → Type 0 = Describes chunks p.value_id in
    rw same (empty_test chunks p (subst P c.in-Empty.is kept))

pub returns-then-last-count : goal.returns-then-last-count
returns-then-last-count c = λ chunks p kept same.
    let P : ValueChunks → Type 0 = Describes chunks p.value_id in
    let count = c.if-last-count.true.0 ∙ c.chunk_count.ensures.count ∙ ap chunk_count same in
    let size : c.chunk_size.result ≡ chunk_size (stored_size p) c.in-Fit.last = c.chunk_size.ensures ∙ ap (λ n. chunk_size n c.in-Fit.last) same in
    ap (λ n. c.in-Fit.size == n) size ∙ fit_test chunks p c.in-Fit.count c.in-Fit.last c.in-Fit.size (subst P c.in-Fit.is kept) count c.if-last-count.true.1

pub returns-else-last-count : goal.returns-else-last-count
returns-else-last-count c = λ chunks p kept same.
    let P : ValueChunks → Type 0 = Describes chunks p.value_id in
    let fit = subst P c.in-Fit.is kept in
    elim c.if-count-chunk_count.branch [
      | then-count-chunk_count w ↦
          w.t-8-is ∙ whole_test chunks p (nat_lt c.in-Fit.last c.in-Fit.count) (λ e. absurd (elim c.if-last-count.either [ inl past ↦ omega (arith, past.1, ltb-true _ _ e) | inr other ↦ other w.if-count-chunk_count.true ])) (λ whole. lt-ltb _ _ (whole_last chunks p c.in-Fit.count c.in-Fit.last c.in-Fit.size fit whole))
      | else-count-chunk_count w ↦
          w.t-8-is ∙ whole_test chunks p (c.in-Fit.count == c.chunk_count.result) (λ e. absurd (w.if-count-chunk_count.false (eqb-true _ _ e))) (λ whole. eq-eqb _ _ (sym fit.counted ∙ whole.count ∙ ap chunk_count (sym same) ∙ sym c.chunk_count.ensures.count))
    ]

pub returns-in-Unfit : goal.returns-in-Unfit
returns-in-Unfit c = λ chunks p kept same.
    let P : ValueChunks → Type 0 = Describes chunks p.value_id in
    unfit_test chunks p (subst P c.in-Unfit.is kept)
