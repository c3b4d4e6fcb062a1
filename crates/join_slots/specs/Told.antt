-- What the body of an index tuple tells of its values.
use Rattle.std.specs.Prelude.{◌≡◌, ◌+◌, ◌++◌, ℕ, List, length, None, Ok}
use Rattle.key_orders.specs.declared.columns.Value.{Value}
use Rattle.key_attrs.specs.Columns.{TreeColumns}
use Rattle.key_attrs.specs.Keyed.{key_types, key_values, more_types}

-- where the body of a tuple without null bits tells the values of all these columns, they are these
abbrev pub TellsKey : TreeColumns → List ℕ → List Value → Type 0
TellsKey columns body key = (held : List Value)
    → key_values (key_types columns.specs ++ more_types columns.more) body None ≡ Ok held
    → length held ≡ length columns.specs + length columns.more → held ≡ key
