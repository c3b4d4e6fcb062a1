-- Names with numbers after them.
use Rattle.std.specs.Prelude.{ℕ, List, ◌++◌, codes, decimal}
use Rattle.std.specs.Int.{to_be_bytes}
use mir.Syntax.{w16, w32}
use Rattle.hex.specs.Hex.{encode_lower}
use Rattle.key_orders.specs.declared.Tid.{Tid}

-- the four lower-case hexadecimal digits of a word, and the eight of a number of 32 bits
unfoldable pub hex_word : ℕ → List ℕ
hex_word n = encode_lower (to_be_bytes w16 n)

unfoldable pub hex_number : ℕ → List ℕ
hex_number n = encode_lower (to_be_bytes w32 n)

-- a name, and a number after it: in decimal, as a word of four hexadecimal digits, or as eight
unfoldable pub decimal_field : List ℕ → ℕ → List ℕ
decimal_field name n = name ++ decimal n

unfoldable pub hex_field : List ℕ → ℕ → List ℕ
hex_field name n = name ++ hex_word n

unfoldable pub long_hex_field : List ℕ → ℕ → List ℕ
long_hex_field name n = name ++ hex_number n

-- a block and an item
unfoldable pub tid_text : Tid → List ℕ
tid_text tid = decimal tid.block ++ decimal_field (codes " ") tid.item
