-- How a set is kept: the truth values of all items side by side as bits, block after block, and where those of each
-- block begin.
use Rattle.std.specs.Prelude.{◌≡◌, ℕ, ◌+◌, ◌-◌, ◌*◌, ◌/◌, ◌%◌, ◌^◌, ◌<◌, ◌≤◌, Bool, false, ◌==◌}
use Rattle.std.specs.Prelude.{List, get_or, length, map}
use Rattle.std.specs.List.{range_with_len}
use Rattle.page_layout.specs.Bits.{is_set}

-- the bits from one place to before another
abbrev pub values_between : List ℕ → ℕ → ℕ → List Bool
values_between bits start end = map (is_set bits) (range_with_len start (end - start))

-- The starts are those of the blocks, and last the end of the last block. Without blocks there is at most one, 0.

abbrev pub count_in : List ℕ → ℕ
count_in starts = length starts - 1

unfoldable pub end_of : List ℕ → ℕ
end_of starts = get_or starts (length starts - 1) 0

-- what is kept of a block
abbrev pub values_in : List ℕ → List ℕ → ℕ → List Bool
values_in starts bits block = values_between bits (get_or starts block 0) (get_or starts (block + 1) 0)

-- and of all blocks
unfoldable pub blocks_of : List ℕ → List ℕ → List (List Bool)
blocks_of starts bits = map (values_in starts bits) (range_with_len 0 (count_in starts))

-- what is true of each set
pub record IsPacked (starts bits : List ℕ) : Type 0 where
  pub ordered : (k : ℕ) → k < length starts → get_or starts k 0 ≤ end_of starts
  -- a page has at most 2042 items
  pub few : end_of starts ≤ 2042 * count_in starts
  pub short : count_in starts ≤ 2 ^ 32
  pub within : end_of starts ≤ 8 * length bits
  pub clear : (place : ℕ) → end_of starts ≤ place → is_set bits place ≡ false

-- starts that tell the same of any bits
pub record AreSameStarts (starts new : List ℕ) : Type 0 where
  pub count : count_in new ≡ count_in starts
  pub blocks : (bits : List ℕ) → blocks_of new bits ≡ blocks_of starts bits
  pub packed : (bits : List ℕ) → IsPacked starts bits → IsPacked new bits
