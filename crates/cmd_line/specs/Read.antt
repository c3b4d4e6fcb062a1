-- What the values that were read of a bound stand for.
use Rattle.std.specs.Prelude.{ℕ, Bool, List}
use denote.Ref.{Bor}
use Rattle.hex.specs.Hex.{decode_of}
use Rattle.laws_search.specs.Keys.{Bound}
use Rattle.key_orders.specs.declared.columns.Value.{Value}
use Rattle.key_orders.specs.declared.columns.Value.TheVariants as value
use Rattle.cmd_line.specs.Bounds.{bytes_or_none}
use Rattle.cmd_line.specs.declared.bounds.ReadBound.{ReadBound}
use Rattle.cmd_line.specs.declared.bounds.ToldValue.{ToldValue}
use Rattle.cmd_line.specs.declared.bounds.ToldValue.TheVariants as told

-- a value as its word tells it
abbrev pub value_told : ToldValue → Value
value_told told.Null = value.Null
value_told (told.Bool b) = value.Bool b
value_told (told.Int n) = value.Int n
value_told (told.Digits digits) = value.Bytes (bytes_or_none (decode_of digits.now))

-- a bound in memory of its own
abbrev pub bound_read : ReadBound → Bound Value
bound_read bound = record { values = bound.values.items; inclusive = bound.inclusive }

-- the parts of a bound's word
abbrev pub parts_shown : Bool × Bor (List ℕ) → Bool × List ℕ
parts_shown parts = (parts.0, parts.1.now)
