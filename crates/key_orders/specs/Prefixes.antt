-- A number for the first value of a key, which is smaller only where the key is lower.
use Rattle.std.specs.Prelude.{◌≡◌, ◌-◌, ◌<◌, ℕ, negsuc, Bool, true, false, List, [], ◌∷◌, FitsSigned, ⊤, slice_index}
use Rattle.std.specs.Int.{int_gap, w64}
use Rattle.key_orders.specs.Leading.{eight_number}
use Rattle.key_orders.specs.declared.columns.KeySpec.{KeySpec}
use Rattle.key_orders.specs.declared.columns.Value.{Value}
use Rattle.key_orders.specs.declared.columns.Value.TheVariants.{Null, Bool as BoolValue, Int, Bytes}

-- the greatest number of 64 bits
abbrev pub greatest : ℕ
greatest = 18446744073709551615

-- false before true, how far a number is above the lowest of 64 bits with a sign, and the first bytes
abbrev pub rising_number : Value → ℕ
rising_number Null = 0
rising_number (BoolValue false) = 0
rising_number (BoolValue true) = 1
rising_number (Int z) = int_gap (negsuc 9223372036854775807) z
rising_number (Bytes bytes) = eight_number bytes

-- the other way round in a column that falls
abbrev pub directed_number : (falls : Bool) → ℕ → ℕ
directed_number false n = n
directed_number true n = greatest - n

-- before or after all others
abbrev pub null_number : (first : Bool) → ℕ
null_number true = 0
null_number false = greatest

-- the number of a value in its column
abbrev pub value_number : KeySpec → Value → ℕ
value_number k Null = null_number k.nulls_first
value_number k (BoolValue b) = directed_number k.desc (rising_number (BoolValue b))
value_number k (Int z) = directed_number k.desc (rising_number (Int z))
value_number k (Bytes bytes) = directed_number k.desc (rising_number (Bytes bytes))

-- the number of a key, that of its first value; 0 without one
abbrev pub key_number : List KeySpec → List Value → ℕ
key_number [] values = 0
key_number (k ∷ ks) [] = 0
key_number (k ∷ ks) (v ∷ vs) = value_number k v

-- a value as memory holds it: a number of 64 bits with a sign, and bytes of 8 bits
abbrev pub IsHeld : Value → Type 0
IsHeld Null = ⊤
IsHeld (BoolValue b) = ⊤
IsHeld (Int z) = FitsSigned w64 z
IsHeld (Bytes bytes) = (k : ℕ) → slice_index bytes k < 256

abbrev pub IsFirstHeld : List KeySpec → List Value → Type 0
IsFirstHeld [] values = ⊤
IsFirstHeld (k ∷ ks) [] = ⊤
IsFirstHeld (k ∷ ks) (v ∷ vs) = IsHeld v

-- the number of a key whose first value memory holds
pub record IsPrefix (specs : List KeySpec) (values : List Value) (number : ℕ) : Type 0 where
  pub is : number ≡ key_number specs values
  pub held : IsFirstHeld specs values
