-- What a walk along a level asks of a page.
use Rattle.std.specs.Prelude.{◌≡◌, ◌-◌, ◌≤◌, ℕ, Bool, false, not, ◌&&◌, ◌||◌, List, Option, drop, slice_get}
use Rattle.page_layout.specs.Page.{count_of}
use Rattle.laws_search.specs.Keys.{Entry, Separator}
use Rattle.laws_search.specs.Levels.{Downlink, page_downlinks}
use Rattle.laws_search.specs.Order.{Order}
use Rattle.laws_levels.specs.Rules.{second_separator}
use Rattle.laws_levels.specs.Tests.{is_low_entry, is_low_separator}
use Rattle.key_orders.specs.declared.columns.KeySpec.{KeySpec}
use Rattle.key_orders.specs.declared.columns.Value.{Value}
use Rattle.key_orders.specs.declared.more.MoreSpec.{MoreSpec}
use Rattle.key_orders.specs.declared.Tid.{Tid}
use Rattle.bt_meta.specs.Flags.{is_half_dead}
use Rattle.bt_meta.specs.Pages.{opaque_of}
use Rattle.bt_image.specs.Image.{TreePage, first_data, page_image}
use Rattle.bt_image.specs.Pages.{IsPlainItem, breaks_items}
use Rattle.bt_level_step.specs.Bounds.{Bound}

-- each item of a page can be read, and there is one where there has to be
pub record HasPlainItems (specs : List KeySpec) (more : List MoreSpec) (page : List ℕ) : Type 0 where
  pub some : breaks_items page ≡ false
  pub plain : is_half_dead (opaque_of page) ≡ false
      → (i : ℕ) → 1 ≤ i → i ≤ count_of page → IsPlainItem specs more page i

-- a key of a live page isn't above its lower bound: the high key, a leaf's first entry, or the separator of an internal
-- page's second data item
abbrev pub is_low_page : Order (Separator Value Tid) (Entry Value Tid) → Option (Separator Value Tid) → TreePage → Bool
is_low_page o lower p =
    is_low_separator o lower p.high_key
    || (p.leaf && is_low_entry o lower (slice_get p.entries 0)
    || not p.leaf && is_low_separator o lower (second_separator p.children))

abbrev pub TreeDownlink : Type 0
TreeDownlink = Downlink (Separator Value Tid)

-- the downlinks of a page from item i on; the separator of its first data item is the page's lower bound
abbrev pub downlinks_from : List KeySpec → List MoreSpec → (page : List ℕ) → (lower : Bound) → ℕ → List TreeDownlink
downlinks_from specs more page lower i =
    drop (i - first_data page) (page_downlinks lower (page_image specs more page).children)
