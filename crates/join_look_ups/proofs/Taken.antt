-- How many times blocks are taken in hand.
use Rattle.std.proofs.Common.{◌≡◌, ℕ, ◌+◌, ◌≤◌, arith}
use Rattle.outside.specs.Counting.{one_more}

-- once more: the count rises by one at most
pub once-more : (old new : ℕ) → new ≡ one_more old → new ≤ old + 1
once-more old new is = omega (arith, is)
