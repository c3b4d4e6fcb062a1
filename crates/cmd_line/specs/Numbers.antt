-- The number that a word writes.
use Rattle.std.specs.Prelude.{◌≡◌, ℕ, ◌<◌, ◌^◌, ◌&&◌, nat_lt, List, Option, Some, None, decimal, if◌then◌else◌}
use Rattle.std.specs.Str.{bytes_eq}
use Rattle.std.specs.Str.Parse.{digits_value}

-- a word writes a number below a bound where it is the decimal text of it
abbrev pub Writes : (bound : ℕ) → List ℕ → ℕ → Type 0
Writes bound word n = (word ≡ decimal n) × (n < bound)

-- the number below a bound that a word writes, if it writes one: no number but that of its digits can be it
unfoldable pub number_written : (bound : ℕ) → List ℕ → Option ℕ
number_written bound word =
    let n = digits_value 10 word in if bytes_eq word (decimal n) && nat_lt n bound then Some n else None

-- numbers of 32 bits, as those of blocks and rows are, and of 64 bits
abbrev pub WritesU32 : List ℕ → ℕ → Type 0
WritesU32 = Writes (2 ^ 32)

abbrev pub WritesU64 : List ℕ → ℕ → Type 0
WritesU64 = Writes (2 ^ 64)

abbrev pub u32_written : List ℕ → Option ℕ
u32_written = number_written (2 ^ 32)

abbrev pub u64_written : List ℕ → Option ℕ
u64_written = number_written (2 ^ 64)
