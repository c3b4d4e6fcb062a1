-- How often an index may be read while its levels are walked. Each page of a level is walked over once, read once more
-- for its downlinks, and passed at most once on the way to the first page of its level.
use Rattle.std.specs.Prelude.{ℕ, ◌+◌, ◌≤◌, Bool, not, ◌&&◌, length, nat_lt}
use Rattle.std.specs.List.{filter}
use Rattle.outside.specs.Outside.{Seen}
use Rattle.laws_search.specs.Search.{tree_blocks}
use Rattle.laws_search.specs.Tree.{Index}

-- the page is in use and of a level below this one
abbrev pub is_page_below : {S E : Type 0} → Index S E → (level : ℕ) → ℕ → Bool
is_page_below x level b = not (x.page b).idle && nat_lt (x.page b).level level

-- how many pages are
unfoldable pub pages_below : {S E : Type 0} → Index S E → (level : ℕ) → ℕ
pages_below x level = length (filter (is_page_below x level) (tree_blocks x.blocks))

-- the reads that a call made were taken from what was left, all but k
abbrev pub TakesReads : {S : Type 0} → (S → Seen) → (old new : S) → (k before after : ℕ) → Type 0
TakesReads seen old new k before after = (seen new).reads + after ≤ (seen old).reads + before + k
