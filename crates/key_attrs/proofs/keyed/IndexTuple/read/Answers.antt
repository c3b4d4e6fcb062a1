use Rattle.std.specs.Option.{option_copied}
use Rattle.std.proofs.lemmas.Result.{err_from_is_err_and}
use Rattle.varlena_attrs.specs.Shown.{shown_at}
use Rattle.key_attrs.proofs.Keying.{failed_column, past_column}
use Rattle.key_attrs.proofs.keyed.IndexTuple.read.Goals as goal

pub returns-in_err-found-clause-fault : goal.returns-in_err-found-clause-fault
returns-in_err-found-clause-fault c =
    let p = err_from_is_err_and c.from_residual.result c.from_residual.ensures.1 in
    let old = c.args.self.now in
    rw (p.1, p.2) (λ values types. failed_column values old.packed old.column c.args.ctype types (option_copied old.nulls) old.natts old.body.now old.place _ c.in_err-found.ensures.step)

pub returns-clause-value : goal.returns-clause-value
returns-clause-value c values types =
    let old = c.args.self.now in
    rw c.or-self.ensures
    (past_column values old.packed old.column c.args.ctype types (option_copied old.nulls) old.natts old.body.now old.place c.in_ok-found.found.next (shown_at old.body.now c.in_ok-found.found.place) _ c.packed_at.result c.in_ok-found.ensures.step c.value_at.ensures.value (c.packed_at.ensures old.body.now))
