-- A search of an index that the names hold, step by step.
use Rattle.std.specs.Prelude.{ℕ, ◌≤◌}
use Rattle.outside.specs.Outside.{Names}
use Rattle.laws_search.specs.Search.{Answers, IsWanted, search_start}
use Rattle.laws_search.specs.Spots.{ReadsOn, Stands, VisitsOn}
use Rattle.key_orders.specs.Scans.{Bounds, order_of}
use Rattle.bt_levels.specs.declared.sound.SoundTree.{SoundTree}
use Rattle.bt_levels.specs.Sound.{block_count, image_of, specs_of}
use Rattle.bt_search.specs.Descents.{ComesTo}
use Rattle.bt_steps.specs.Pages.{is_killed}
use Rattle.bt_search.specs.Spots.{left_from, rest_from, scan_on}

-- What is left at the start is what the scan wants, and what the searcher has yielded when it has ended, within as many
-- visits as there are blocks. What each visit, and each step along a leaf, does to that is said by `VisitsOn` and
-- `ReadsOn`.
pub record GoesInSteps (names : Names) (sound : SoundTree) (bounds : Bounds) : Type 0 where
  pub wanted : IsWanted (order_of (specs_of sound)) is_killed (image_of names sound) (scan_on sound bounds)
      (rest_from names sound bounds (search_start (image_of names sound)))
  pub answer : Answers is_killed (image_of names sound) (scan_on sound bounds) (block_count sound)
      (rest_from names sound bounds (search_start (image_of names sound)))
  pub most : left_from names sound bounds (search_start (image_of names sound)) ≤ block_count sound
  pub visits : (b : ℕ) → ComesTo names sound bounds b
      → VisitsOn is_killed (image_of names sound) (scan_on sound bounds) b
  pub reads : (b j : ℕ) → Stands is_killed (image_of names sound) (scan_on sound bounds) b j
      → ReadsOn is_killed (image_of names sound) (scan_on sound bounds) b j
