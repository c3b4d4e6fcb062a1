use Rattle.std.proofs.Common.{◌≡◌, ℕ, ◌++◌, List, [], sym, ◌∙◌}
use Rattle.std.specs.Prelude.{Option}
use Rattle.key_orders.specs.declared.columns.ColType.{ColType}
use Rattle.key_orders.specs.declared.columns.Value.{Value}
use Rattle.key_attrs.specs.declared.keyed.IndexTuple.{IndexTuple}
use Rattle.key_attrs.specs.Keyed.{KeyValues, key_types, more_types, unless_packed}
use Rattle.key_attrs.specs.KeyedShown.{told_by}
use Rattle.key_attrs.proofs.Keying.{count_of_types, told_all}
use Rattle.key_attrs.proofs.keyed.read_entry_attributes.Goals as goal

-- what is told by all columns: those of the key, and after them those that are included
all_read : (first middle last : IndexTuple) (types later : List ColType) (key rest : List Value) (packed : Option ℕ) (told : KeyValues)
    → told_by first [] (types ++ later) ≡ told → told_by first [] (types ++ later) ≡ told_by middle key later
    → told_by middle key later ≡ told_by last (key ++ rest) [] → last.packed ≡ packed → told ≡ unless_packed packed (key ++ rest)
all_read first middle last types later key rest packed told is past_key past_rest where_packed =
    sym is ∙ past_key ∙ past_rest ∙ told_all last (key ++ rest) packed where_packed

pub returns-in-Some-clause-fault : goal.returns-in-Some-clause-fault
returns-in-Some-clause-fault c =
    let later = more_types c.args.columns.now.more.now in
    all_read c.new-tuple.result c.read_key.new.self c.read_more.new.self (key_types c.args.columns.now.specs.now) later c.read_key.new.key c.in_ok-rest.rest _ _ (c.new-tuple.ensures.told (key_types c.args.columns.now.specs.now ++ later) (count_of_types c.args.columns.now.specs.now c.args.columns.now.more.now)) (c.in_ok-read_key.ensures.value later) (c.in_ok-rest.ensures.value c.read_key.new.key) c.in-Some.is

pub returns-in-None-clause-value : goal.returns-in-None-clause-value
returns-in-None-clause-value c =
    let later = more_types c.args.columns.now.more.now in
    all_read c.new-tuple.result c.read_key.new.self c.read_more.new.self (key_types c.args.columns.now.specs.now) later c.read_key.new.key c.in_ok-rest.rest _ _ (c.new-tuple.ensures.told (key_types c.args.columns.now.specs.now ++ later) (count_of_types c.args.columns.now.specs.now c.args.columns.now.more.now)) (c.in_ok-read_key.ensures.value later) (c.in_ok-rest.ensures.value c.read_key.new.key) c.in-None.is
