-- How a key lies among bytes, and what is read of any bytes. A value is a byte that says what
-- follows: 0 for null, 1 and 2 for false and true, 3 for a number in 8 bytes, 6 for one from 0 to 4294967295 in 4
-- bytes, 4 for bytes, whose number stands in the 4 bytes before them, and 5 for fewer than 256 bytes, whose number
-- stands in the byte before them. Numbers have the lowest byte first.
use Rattle.std.specs.Prelude.{ℕ, zero, suc, ◌<◌, ◌^◌, ◌==◌, nat_lt, true, false, cond, FitsSigned}
use Rattle.std.specs.Prelude.{List, [], ◌∷◌, ◌++◌, length, take, drop}
use Rattle.std.specs.List.{flat_map}
use Rattle.std.specs.Int.{cast_signed, cast_unsigned, from_le_bytes, to_le_bytes}
use mir.Syntax.{w32, w64}
use Rattle.key_orders.specs.declared.columns.Value.{Value}
use Rattle.key_orders.specs.declared.columns.ValueRef.{ValueRef}
use Rattle.key_orders.specs.Values.{value_shown}
use Rattle.key_orders.specs.declared.columns.Value.TheVariants.{Null, Bool as BoolValue, Int, Bytes}

-- bytes
abbrev pub stored_bytes : List ℕ → List ℕ
stored_bytes bytes =
    cond (nat_lt (length bytes) 256) (5 ∷ length bytes ∷ bytes) (4 ∷ (to_le_bytes w32 (length bytes) ++ bytes))

-- a number, by its 64 bits
abbrev pub stored_int : ℕ → List ℕ
stored_int n = cond (nat_lt n (2 ^ 32)) (6 ∷ to_le_bytes w32 n) (3 ∷ to_le_bytes w64 n)

-- a value
abbrev pub stored_value : Value → List ℕ
stored_value Null = 0 ∷ []
stored_value (BoolValue b) = cond b 2 1 ∷ []
stored_value (Int z) = stored_int (cast_unsigned w64 z)
stored_value (Bytes bytes) = stored_bytes bytes

-- the values that are read back as they were: 64 bits for a number, and less than 4 GiB of bytes
abbrev pub IsStorable : Value → Type 0
IsStorable Null = Unit {0}
IsStorable (BoolValue b) = Unit {0}
IsStorable (Int z) = FitsSigned w64 z
IsStorable (Bytes bytes) = length bytes < 2 ^ 32

-- a value that a page shows
abbrev pub shown_bytes : ValueRef → List ℕ
shown_bytes v = stored_value (value_shown v)

-- the number of values, and the values
abbrev pub stored_key : List Value → List ℕ
stored_key key = length key ∷ flat_map stored_value key

-- what is read, and what is left of the bytes; where bytes are missing, null is read, and nothing is left
abbrev pub int_read : List ℕ → Value × List ℕ
int_read bytes =
    cond (nat_lt (length bytes) 8) (Null, [])
    (Int (cast_signed w64 (from_le_bytes w64 (take 8 bytes))), drop 8 bytes)

abbrev pub small_read : List ℕ → Value × List ℕ
small_read bytes =
    cond (nat_lt (length bytes) 4) (Null, [])
    (Int (cast_signed w64 (from_le_bytes w32 (take 4 bytes))), drop 4 bytes)

abbrev pub sized_read : ℕ → List ℕ → Value × List ℕ
sized_read n bytes = cond (nat_lt (length bytes) n) (Null, []) (Bytes (take n bytes), drop n bytes)

abbrev pub bytes_read : List ℕ → Value × List ℕ
bytes_read bytes =
    cond (nat_lt (length bytes) 4) (Null, []) (sized_read (from_le_bytes w32 (take 4 bytes)) (drop 4 bytes))

abbrev pub short_read : List ℕ → Value × List ℕ
short_read [] = (Null, [])
short_read (n ∷ bytes) = sized_read n bytes

abbrev pub tagged_read : ℕ → List ℕ → Value × List ℕ
tagged_read tag bytes =
    cond (tag == 1) (BoolValue false, bytes)
    (cond (tag == 2) (BoolValue true, bytes)
    (cond (tag == 3) (int_read bytes)
    (cond (tag == 4) (bytes_read bytes)
    (cond (tag == 5) (short_read bytes)
    (cond (tag == 6) (small_read bytes) (Null, bytes))))))

unfoldable pub value_read : List ℕ → Value × List ℕ
value_read [] = (Null, [])
value_read (tag ∷ bytes) = tagged_read tag bytes

-- so many values
abbrev pub values_read : ℕ → List ℕ → List Value
values_read zero bytes = []
values_read (suc n) bytes = (value_read bytes).0 ∷ values_read n (value_read bytes).1

-- what is left behind them
abbrev pub values_left : ℕ → List ℕ → List ℕ
values_left zero bytes = bytes
values_left (suc n) bytes = values_left n (value_read bytes).1

-- values whose number stands before them
unfoldable pub key_read : List ℕ → List Value
key_read [] = []
key_read (count ∷ bytes) = values_read count bytes
