-- Keys that are apart: no two entries of an index have the same values.
use Rattle.std.specs.Prelude.{◌≡◌, ◌≢◌, ◌<◌, ◌≤◌, ℕ, true, List, None, length}
use Rattle.std.specs.List.{AllAdjacentBelow}
use Rattle.outside.specs.Outside.{Names}
use Rattle.key_attrs.specs.Columns.{TreeColumns}
use Rattle.bt_image.specs.Image.{has_high_key, item_at, page_keys, separator_in}
use Rattle.bt_levels.specs.declared.sound.SoundTree.{SoundTree}
use Rattle.bt_levels.specs.Sound.{block_count, held_block, index_columns}
use Rattle.bt_steps.specs.Pages.{is_live_leaf}

-- no two entries of a leaf that stand side by side have the same values, and its high key, if it has one, keeps no TID
pub record IsApart (columns : TreeColumns) (page : List ℕ) : Type 0 where
  pub entries : AllAdjacentBelow (λ d e. d.values ≢ e.values) (page_keys columns.specs columns.more page)
      (length (page_keys columns.specs columns.more page))
  pub high_key : has_high_key page ≡ true → (separator_in (item_at columns.specs columns.more page 1)).tid ≡ None

-- so it is of each leaf in use, but for half-dead ones, among the blocks from 1 to n - 1 of an index
abbrev pub AreApartBelow : Names → SoundTree → (n : ℕ) → Type 0
AreApartBelow names tree n =
    (b : ℕ) → 1 ≤ b → b < n → is_live_leaf (held_block names tree b) ≡ true
    → IsApart (index_columns tree) (held_block names tree b)

-- and among all
abbrev pub AreApart : Names → SoundTree → Type 0
AreApart names tree = AreApartBelow names tree (block_count tree)
