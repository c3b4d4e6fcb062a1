-- The first bytes of a list as a number.
use Rattle.std.specs.Prelude.{ℕ, List}
use Rattle.std.specs.Int.{from_be_bytes, w64}

-- the number that the first eight bytes are, the first one highest; zeros stand for those that are missing
unfoldable pub eight_number : List ℕ → ℕ
eight_number bytes = from_be_bytes w64 bytes
