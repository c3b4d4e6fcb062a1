-- Sets of blocks.
use Rattle.std.specs.Prelude.{◌≡◌, ℕ, Bool, false, List, get_or}

-- the block is in the set; what is past its end isn't
abbrev pub is_in : List Bool → ℕ → Bool
is_in set b = get_or set b false

-- no block is
abbrev pub IsEmptySet : List Bool → Type 0
IsEmptySet set = (b : ℕ) → is_in set b ≡ false
