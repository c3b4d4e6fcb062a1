-- The loop that judges one level after the other, from the top down: what is known before each level and after it.
use Rattle.std.specs.Prelude.{◌≡◌, ◌+◌, ℕ, Bool, List}
use Rattle.laws_search.specs.Order.{Order}
use Rattle.laws_search.specs.Tree.{Index}
use Rattle.laws_search.specs.Levels.{Downlink, downlinks}
use Rattle.laws_levels.specs.Links.{walked_chain}
use Rattle.laws_levels.specs.Walk.{with_blocks}
use Rattle.laws_levels.specs.Cursor.{AreAbove, all_levels_finding, blocks_read, dead_below, is_block_read}
use Rattle.laws_levels.specs.Cursor.{levels_read_finding}

-- Nothing was found above this level, which has the number m and stands n levels below the top. `dead` has the dead
-- pages of the levels above, `stands` all their pages.
pub record IsBefore {S E : Type 0} (same : S → S → Bool) (o : Order S E) (x : Index S E) (dead stands : ℕ → Bool)
    (m n : ℕ) : Type 0 where
  pub sum : m + n ≡ x.level
  pub above : AreAbove x m dead
  -- what is left to be found is all that there is to find
  pub left : levels_read_finding same o x m dead (downlinks x n) ≡ all_levels_finding same o x
  pub blocks : (b : ℕ) → blocks_read x m dead (downlinks x n) stands b ≡ is_block_read x b

-- the two sets have gained the dead pages and all pages of the level below these downlinks
pub record HavePassed {S E : Type 0} (x : Index S E) (ds : List (Downlink S)) (dead stands : ℕ → Bool)
    (dead_then stands_then : ℕ → Bool) : Type 0 where
  pub dead_pages : (b : ℕ) → dead_then b ≡ dead_below x dead ds b
  pub pages : (b : ℕ) → stands_then b ≡ with_blocks stands (walked_chain x ds) b
