-- The values of a row in an index as one list: those of its key, and behind them those of included columns.
use Rattle.std.specs.Prelude.{List, ◌++◌, map}
use Rattle.key_orders.specs.declared.columns.Value.{Value}
use Rattle.key_orders.specs.Values.{value_shown}
use Rattle.key_storage.specs.declared.values.RowValues.{RowValues}

abbrev pub row_values : RowValues → List Value
row_values v = map value_shown v.key.now ++ map value_shown v.more.now
