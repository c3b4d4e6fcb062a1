-- A cursor over the downlinks to a level, and those that are left behind it.
use Rattle.std.specs.Prelude.{◌≡◌, ◌+◌, ◌≤◌, ℕ, Bool, List, length}
use Rattle.std.specs.List.{AllByRecursion}
use Rattle.laws_search.specs.Levels.{Downlink}
use Rattle.laws_search.specs.Searchable.{IsInUse}
use Rattle.laws_search.specs.Tree.{Index, linked_from}
use Rattle.laws_levels.specs.Cursor.{Cursor, downlinks_left}
use Rattle.laws_levels.specs.Links.{Leads, to_right}
use Rattle.bt_level_check.specs.Budget.{pages_below}

-- the page is in use and of this level
abbrev pub IsOfLevel : {S E : Type 0} → Index S E → (level : ℕ) → ℕ → Type 0
IsOfLevel x level b = IsInUse x b × ((x.page b).level ≡ level)

-- behind the cursor these downlinks are left; the pages of this level that are left to be read, and all below it,
-- are at most m
pub record IsReading {S E : Type 0} (x : Index S E) (dead : ℕ → Bool) (level m : ℕ) (cursor : Cursor S)
    (left : List (Downlink S)) : Type 0 where
  pub pages : ℕ
  pub few : length (linked_from (to_right x) pages cursor.block) + pages_below x level ≤ m
  pub leads : Leads (to_right x) cursor.block (linked_from (to_right x) pages cursor.block)
  pub of_level : AllByRecursion (IsOfLevel x level) (linked_from (to_right x) pages cursor.block)
  pub is : downlinks_left x dead pages cursor ≡ left
