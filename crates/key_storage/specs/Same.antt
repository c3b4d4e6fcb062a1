-- Whether two values, or two keys, are the same.
use Rattle.std.specs.Prelude.{Bool, true, false, not, List}
use Rattle.std.specs.Ordering.{int_eq}
use Rattle.std.specs.Str.{bytes_eq}
use Rattle.std.specs.Cmp.Lexicographic.{pointwise}
use Rattle.key_orders.specs.declared.columns.Value.{Value}
use Rattle.key_orders.specs.declared.columns.Value.TheVariants.{Null, Bool as BoolValue, Int, Bytes}

abbrev pub same_flag : Bool → Bool → Bool
same_flag true b = b
same_flag false b = not b

abbrev pub same_value : Value → Value → Bool
same_value Null Null = true
same_value Null (BoolValue b) = false
same_value Null (Int z) = false
same_value Null (Bytes bytes) = false
same_value (BoolValue a) Null = false
same_value (BoolValue a) (BoolValue b) = same_flag a b
same_value (BoolValue a) (Int z) = false
same_value (BoolValue a) (Bytes bytes) = false
same_value (Int y) Null = false
same_value (Int y) (BoolValue b) = false
same_value (Int y) (Int z) = int_eq y z
same_value (Int y) (Bytes bytes) = false
same_value (Bytes xs) Null = false
same_value (Bytes xs) (BoolValue b) = false
same_value (Bytes xs) (Int z) = false
same_value (Bytes xs) (Bytes ys) = bytes_eq xs ys

abbrev pub same_key : List Value → List Value → Bool
same_key = pointwise same_value
