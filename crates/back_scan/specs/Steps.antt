-- A backward search of an index that the names hold, step by step.
use Rattle.std.specs.Prelude.{◌+◌, List, reverse}
use Rattle.outside.specs.Outside.{Names}
use Rattle.laws_search.specs.Keys.{Entry}
use Rattle.laws_search.specs.Search.{IsWanted}
use Rattle.laws_back_search.specs.Answers.{AnswersBack}
use Rattle.laws_back_search.specs.Spots.{GoesBack}
use Rattle.key_orders.specs.declared.columns.Value.{Value}
use Rattle.key_orders.specs.declared.Tid.{Tid}
use Rattle.key_orders.specs.Scans.{Bounds, order_of}
use Rattle.bt_levels.specs.declared.sound.SoundTree.{SoundTree}
use Rattle.bt_levels.specs.Sound.{block_count, image_of, specs_of}
use Rattle.bt_steps.specs.Pages.{is_killed}
use Rattle.bt_search.specs.Spots.{scan_on}
use Rattle.bt_search.specs.Items.{back_on}

-- these are the entries that the scan is to find
abbrev pub IsWantedOn : Names → SoundTree → Bounds → List (Entry Value Tid) → Type 0
IsWantedOn names sound bounds es =
    IsWanted (order_of (specs_of sound)) is_killed (image_of names sound) (scan_on sound bounds) es

-- There are such entries. Whichever they are, what is left at the start is their reverse, and what the searcher has
-- appended when it has ended, within twice the blocks; and what each visit, and each step along a leaf, does to that is
-- said by `GoesBack`.
pub record GoesInSteps (names : Names) (sound : SoundTree) (bounds : Bounds) : Type 0 where
  pub some : List (Entry Value Tid)
  pub wanted : IsWantedOn names sound bounds some
  pub answers : (es : List (Entry Value Tid)) → IsWantedOn names sound bounds es
      → AnswersBack is_killed (image_of names sound) (scan_on sound bounds) (back_on sound bounds)
      (block_count sound + block_count sound) (reverse es)
  pub steps : (es : List (Entry Value Tid)) → IsWantedOn names sound bounds es
      → GoesBack is_killed (image_of names sound) (scan_on sound bounds) (back_on sound bounds) es
