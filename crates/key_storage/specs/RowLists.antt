-- Keys of rows that lie among bytes one after another, by the places where they begin. A key that is one number below
-- 2147483648 doesn't lie there: in place of a place stands the number.
use mir.Syntax.{w32}
use Rattle.std.specs.Int.{to_le_bytes}
use Rattle.std.specs.Prelude.{◌≡◌, ℕ, ◌-◌, ◌<◌, ◌^◌, ◌∷◌, ◌++◌, List, All, cond, drop, length, map, nat_lt}
use Rattle.key_orders.specs.declared.columns.Value.{Value}
use Rattle.key_storage.specs.Stored.{IsStorable, key_read, stored_key}

-- a key lies at a place, behind other bytes and before others
pub record LiesAt (arena : List ℕ) (at : ℕ) : Type 0 where
  pub before : List ℕ
  pub key : List Value
  pub rest : List ℕ
  pub storable : All IsStorable key
  pub at_is : length before ≡ at
  pub bytes : arena ≡ before ++ (stored_key key ++ rest)

-- no place is this or more; from it on a number says that the key is one number, which the rest is
abbrev pub NUMBERS : ℕ
NUMBERS = 2 ^ 31

-- a number as a key
abbrev pub number_bytes : ℕ → List ℕ
number_bytes n = 1 ∷ 6 ∷ to_le_bytes w32 n

-- the bytes at which the key is read
abbrev pub bytes_at : List ℕ → ℕ → List ℕ
bytes_at bytes start = cond (nat_lt start NUMBERS) (drop start bytes) (number_bytes (start - NUMBERS))

-- a key lies there, if it is a place
abbrev pub LiesFrom : List ℕ → ℕ → Type 0
LiesFrom bytes start = start < NUMBERS → LiesAt bytes start

-- the keys that are read
abbrev pub keys_read : List ℕ → List ℕ → List (List Value)
keys_read starts bytes = map (λ start. key_read (bytes_at bytes start)) starts

-- bytes were added behind others
pub record HasMore (old new : List ℕ) : Type 0 where
  pub more : List ℕ
  pub are : new ≡ old ++ more
