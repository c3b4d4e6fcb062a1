use Rattle.std.proofs.Common.{◌∙◌, ◌++◌, ◌∷◌, [], All, List, ℕ, subst, sym, ap}
use Rattle.key_storage.specs.RowLists.{LiesFrom, keys_read}
use Rattle.key_storage.specs.Rows.{row_values}
use Rattle.key_storage.specs.Stored.{stored_key}
use Rattle.key_storage.proofs.RowLaws.{number_row, one_lies, one_read, still_read, whatever}
use Rattle.key_storage.proofs.rows.StoredRows.push.Goals as goal

pub invariant_of-self : goal.invariant_of-self
invariant_of-self c =
    let s = c.self.inside in
    subst (λ (starts : List ℕ). All (LiesFrom s.bytes.items) starts) (sym c.in_err-push.ensures.items) c.self.invariant

pub invariant_of-self-2 : goal.invariant_of-self-2
invariant_of-self-2 c =
    let s = c.self.inside in
    let key = row_values c.args.values in
    subst (λ (starts : List ℕ). All (LiesFrom c.store_row.new.arena.items) starts) (sym c.in_ok-push-2.ensures.items)
    (subst (λ (bytes : List ℕ). All (LiesFrom bytes) (s.starts.items ++ c.in_ok-start.start ∷ [])) (sym c.in_ok-start.ensures.ok)
    (one_lies s.starts.items s.bytes.items c.in_ok-start.start key c.self.invariant c.in_ok-start.ensures.place c.in_ok-start.ensures.storable))

pub returns-in_err-push-clause-err : goal.returns-in_err-push-clause-err
returns-in_err-push-clause-err c =
    let s = c.self.inside in
    whatever c.from_residual.result _ (ap (λ (starts : List ℕ). keys_read starts s.bytes.items) c.in_err-push.ensures.items ∙ c.self.view_is)

pub returns-in-Some-clause-ok : goal.returns-in-Some-clause-ok
returns-in-Some-clause-ok c =
    let s = c.self.inside in
    let key = row_values c.args.values in
    ap (λ (starts : List ℕ). keys_read starts s.bytes.items) c.in_ok-push.ensures.items
    ∙ number_row s.starts.items s.bytes.items c.in-Some.number key c.in-Some.ensures.is
    ∙ ap (λ l. l ++ key ∷ []) c.self.view_is

pub returns-in_err-start-clause-err : goal.returns-in_err-start-clause-err
returns-in_err-start-clause-err c =
    let s = c.self.inside in
    let added = c.in_err-start.ensures.err in
    whatever c.from_residual-in_err-start.result _
    (ap (keys_read s.starts.items) added.are ∙ still_read s.starts.items s.bytes.items added.more c.self.invariant ∙ c.self.view_is)

pub returns-in_err-push-2-clause-err : goal.returns-in_err-push-2-clause-err
returns-in_err-push-2-clause-err c =
    let s = c.self.inside in
    let more = stored_key (row_values c.args.values) in
    whatever c.from_residual-in_err-push-2.result _
    ((λ i. keys_read (c.in_err-push-2.ensures.items i) (c.in_ok-start.ensures.ok i))
    ∙ still_read s.starts.items s.bytes.items more c.self.invariant
    ∙ c.self.view_is)

pub returns-clause-ok : goal.returns-clause-ok
returns-clause-ok c =
    let s = c.self.inside in
    let key = row_values c.args.values in
    (λ i. keys_read (c.in_ok-push-2.ensures.items i) (c.in_ok-start.ensures.ok i))
    ∙ one_read s.starts.items s.bytes.items c.in_ok-start.start key c.self.invariant c.in_ok-start.ensures.place c.in_ok-start.ensures.low c.in_ok-start.ensures.storable
    ∙ ap (λ l. l ++ key ∷ []) c.self.view_is
