-- Bits side by side in bytes, each in its byte from the lowest up. Places of bits count from 0.
use Rattle.std.specs.Prelude.{ℕ, ◌/◌, ◌%◌, Bool, ◌==◌, List, get_or}
use Rattle.std.specs.Int.{bit_at}

-- the bit at a place; past the bytes' end none is set
unfoldable pub is_set : List ℕ → ℕ → Bool
is_set bits place = bit_at (get_or bits (place / 8) 0) (place % 8) == 1
