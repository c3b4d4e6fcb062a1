-- What a pass over the leaves of an index finds of what its entries name, where that is asked.
use Rattle.std.specs.Prelude.{◌≡◌, ◌≢◌, ℕ, ◌-◌, Bool, true, List, Option, None, Some}
use Rattle.outside.specs.Outside.{Names}
use Rattle.key_orders.specs.declared.Tid.{Tid}
use Rattle.key_attrs.specs.Columns.{TreeColumns}
use Rattle.reports.specs.Added.{each_upto, nothing, report_lists}
use Rattle.reports.specs.Lists.{Lists}
use Rattle.bt_levels.specs.declared.sound.SoundTree.{SoundTree}
use Rattle.bt_levels.specs.Files.{number_of}
use Rattle.bt_levels.specs.Sound.{block_count, file_of, held_block, index_columns}
use Rattle.heap_targets.specs.Targets.{is_in}
use Rattle.join_slots.specs.Slots.{Tables, keys_in}
use Rattle.bt_steps.specs.Pages.{is_live_leaf}
use Rattle.join_distinct.specs.Apart.{IsApart}
use Rattle.join_rules.specs.Lists.{leaf_lists}

-- each row that is kept is rooted at a line pointer that the set has, where there is a set
abbrev pub AreTargets : Option (List (List Bool)) → Tables → Type 0
AreTargets None slots = Unit {0}
AreTargets (Some set) slots = (tid : Tid) → keys_in slots tid ≢ None → is_in set tid ≡ true

-- the entries of a block that name what the set doesn't have, where there is a set
abbrev pub strays_on : (number : ℕ) → TreeColumns → Option (List (List Bool)) → (b : ℕ) → List ℕ → Lists
strays_on number columns None b page = nothing
strays_on number columns (Some set) b page = leaf_lists number columns (is_in set) b page

-- those of all blocks but the metapage, by their numbers
unfoldable pub strays_of : Names → Option (List (List Bool)) → SoundTree → Lists
strays_of names targets tree =
    each_upto report_lists
    (λ b. strays_on (number_of (file_of tree)) (index_columns tree) targets b (held_block names tree b))
    (block_count tree - 1)

-- block b is apart, if it is a leaf in use that isn't half-dead, and it was known so far that keys are
pub record IsApartSoFar (names : Names) (tree : SoundTree) (b : ℕ) (before : Bool) : Type 0 where
  pub known : before ≡ true
  pub here : is_live_leaf (held_block names tree b) ≡ true → IsApart (index_columns tree) (held_block names tree b)
