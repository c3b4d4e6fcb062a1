-- The line that prints an entry.
use Rattle.std.specs.Prelude.{ℕ, true, false, List, [], ◌∷◌, ◌++◌, codes, decimal}
use Rattle.std.specs.Fmt.{signed_decimal}
use Rattle.std.specs.List.{flat_map}
use Rattle.hex.specs.Hex.{encode_lower}
use Rattle.key_orders.specs.declared.columns.Value.{Value}
use Rattle.key_orders.specs.declared.columns.Value.TheVariants.{Null, Bool, Int, Bytes}
use Rattle.key_orders.specs.declared.Tid.{Tid}

-- a value: null, false, true, a number in decimal, or x and its bytes in hexadecimal
unfoldable pub value_text : Value → List ℕ
value_text Null = codes "null"
value_text (Bool false) = codes "false"
value_text (Bool true) = codes "true"
value_text (Int z) = signed_decimal z
value_text (Bytes bytes) = codes "x" ++ encode_lower bytes

-- another one after it
unfoldable pub next_text : Value → List ℕ
next_text v = codes "," ++ value_text v

unfoldable pub values_text : List Value → List ℕ
values_text [] = []
values_text (v ∷ vs) = value_text v ++ flat_map next_text vs

-- an entry, by its key and its TID
unfoldable pub entry_text : List Value → Tid → List ℕ
entry_text key tid =
    codes "entry " ++ values_text key ++ codes " tid " ++ decimal tid.block ++ codes " " ++ decimal tid.item
    ++ codes "\n"
