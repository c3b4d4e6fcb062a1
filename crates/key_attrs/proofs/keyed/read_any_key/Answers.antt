use Rattle.std.proofs.Common.{◌≡◌, ℕ, ◌++◌, List, [], sym, ap, ◌∙◌, append-nil}
use Rattle.std.specs.Prelude.{Err}
use Rattle.std.proofs.lemmas.List.{length-map}
use Rattle.std.proofs.lemmas.Result.{err_from_is_err_and}
use Rattle.key_orders.specs.declared.columns.ColType.{ColType}
use Rattle.key_orders.specs.declared.columns.Value.{Value}
use Rattle.key_attrs.specs.declared.keyed.IndexTuple.{IndexTuple}
use Rattle.key_attrs.specs.declared.keyed.KeyFault.{KeyFault}
use Rattle.std.specs.Prelude.{Option}
use Rattle.key_attrs.specs.Keyed.{KeyValues, key_types, unless_packed}
use Rattle.key_attrs.specs.KeyedShown.{told_by}
use Rattle.key_attrs.proofs.Keying.{told_all}
use Rattle.key_attrs.proofs.keyed.read_any_key.Goals as goal

-- what is told by all columns, none of which comes after those of the key
all_read : (first last : IndexTuple) (types : List ColType) (key : List Value) (packed : Option ℕ) (told : KeyValues)
    → told_by first [] types ≡ told → told_by first [] (types ++ []) ≡ told_by last key [] → last.packed ≡ packed → told ≡ unless_packed packed key
all_read first last types key packed told is past_key where_packed =
    sym is ∙ ap (told_by first []) (sym (append-nil types)) ∙ past_key ∙ told_all last key packed where_packed

failed : (first : IndexTuple) (types : List ColType) (e : KeyFault) (told : KeyValues)
    → told_by first [] types ≡ told → told_by first [] (types ++ []) ≡ Err e → told ≡ Err e
failed first types e told is fault = sym is ∙ ap (told_by first []) (sym (append-nil types)) ∙ fault

pub returns-in_err-read_key-clause-fault : goal.returns-in_err-read_key-clause-fault
returns-in_err-read_key-clause-fault c =
    let p = err_from_is_err_and c.from_residual.result c.from_residual.ensures.1 in
    let types = key_types c.args.specs.now in
    rw (p.1, p.2) (failed c.new-tuple.result types _ _ (c.new-tuple.ensures.told types (length-map c.args.specs.now (λ k. k.ctype))) (c.in_err-read_key.ensures.fault []))

pub returns-in-Some-clause-fault : goal.returns-in-Some-clause-fault
returns-in-Some-clause-fault c =
    let types = key_types c.args.specs.now in
    all_read c.new-tuple.result c.read_key.new.self types c.read_key.new.key _ _ (c.new-tuple.ensures.told types (length-map c.args.specs.now (λ k. k.ctype))) (c.in_ok-read_key.ensures.value []) c.in-Some.is

pub returns-in-None-clause-value : goal.returns-in-None-clause-value
returns-in-None-clause-value c =
    let types = key_types c.args.specs.now in
    all_read c.new-tuple.result c.read_key.new.self types c.read_key.new.key _ _ (c.new-tuple.ensures.told types (length-map c.args.specs.now (λ k. k.ctype))) (c.in_ok-read_key.ensures.value []) c.in-None.is
