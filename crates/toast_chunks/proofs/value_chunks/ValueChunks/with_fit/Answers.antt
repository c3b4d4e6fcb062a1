use Rattle.std.proofs.Common.{◌≡◌, ℕ, ◌+◌, [], ◌∷◌, ◌++◌, Some, ap, sym, subst, ◌∙◌, arith}
use Rattle.toast_chunks.specs.declared.value_chunks.ValueChunks.{ValueChunks}
use Rattle.toast_chunks.specs.ValueChunks.{Describes, IsFit, IsNeverWhole}
use Rattle.toast_chunks.proofs.Fitting.{count_most}
use Rattle.toast_chunks.proofs.OneMore.{earlier_fits, first_fits, later_fits, lower_than_last}
use Rattle.toast_chunks.proofs.Unfit.{earlier_never, later_never}
use Rattle.toast_chunks.proofs.value_chunks.ValueChunks.with_fit.Goals.{then-last-seq, else-last-seq}
use Rattle.toast_chunks.proofs.value_chunks.ValueChunks.with_fit.Goals as goal

pub returns-in-Empty : goal.returns-in-Empty
returns-in-Empty c = λ chunks d kept seq size none.
    let P : ValueChunks → Type 0 = Describes chunks d.id in
    first_fits chunks d c.args.seq c.args.size (subst P c.in-Empty.is kept) seq size c.requires

pub returns-then-lower_size-eq-CHUNK : goal.returns-then-lower_size-eq-CHUNK
returns-then-lower_size-eq-CHUNK c = λ chunks d kept seq size none.
    let P : ValueChunks → Type 0 = Describes chunks d.id in
    let f = subst P c.in-Fit.is kept in
    let count : c.saturating_add.result ≡ c.in-Fit.count + 1 = omega (arith, c.saturating_add.ensures, f.limit, count_most chunks d.id c.in-Fit.count c.in-Fit.last c.in-Fit.last_size f) in
    let Q : (ℕ × ℕ × ℕ) → Type 0 = λ t. t.0 ≡ 1996 → IsFit (chunks ++ d ∷ []) d.id (c.in-Fit.count + 1) t.1 t.2 in
    rw count (elim c.if-last-seq.branch [
      | then-last-seq w ↦
          subst Q (sym w.lower_size-is) (λ full. let R : ℕ → Type 0 = IsFit chunks d.id c.in-Fit.count c.in-Fit.last in later_fits chunks d c.in-Fit.count c.in-Fit.last c.args.seq c.args.size (subst R full f) seq size none w.if-last-seq.true c.requires) c.if-lower_size-eq-CHUNK.true
      | else-last-seq w ↦
          subst Q (sym w.lower_size-is) (λ full. earlier_fits chunks d c.in-Fit.count c.in-Fit.last c.in-Fit.last_size c.args.seq f seq (size ∙ ap Some full) none (lower_than_last chunks d c.in-Fit.count c.in-Fit.last c.in-Fit.last_size c.args.seq f seq none w.if-last-seq.false)) c.if-lower_size-eq-CHUNK.true
    ])

pub returns-else-lower_size-eq-CHUNK : goal.returns-else-lower_size-eq-CHUNK
returns-else-lower_size-eq-CHUNK c = λ chunks d kept seq size none.
    let P : ValueChunks → Type 0 = Describes chunks d.id in
    let f = subst P c.in-Fit.is kept in
    let Q : (ℕ × ℕ × ℕ) → Type 0 = λ t. (t.0 ≡ 1996 → ⊥) → IsNeverWhole (chunks ++ d ∷ []) d.id in
    elim c.if-last-seq.branch [
      | then-last-seq w ↦
          subst Q (sym w.lower_size-is) (λ unfull. later_never chunks d c.in-Fit.count c.in-Fit.last c.in-Fit.last_size c.args.seq f seq w.if-last-seq.true unfull) c.if-lower_size-eq-CHUNK.false
      | else-last-seq w ↦
          subst Q (sym w.lower_size-is) (λ unfull. earlier_never chunks d c.in-Fit.count c.in-Fit.last c.in-Fit.last_size c.args.seq c.args.size f seq size (lower_than_last chunks d c.in-Fit.count c.in-Fit.last c.in-Fit.last_size c.args.seq f seq none w.if-last-seq.false) unfull) c.if-lower_size-eq-CHUNK.false
    ]
