-- The downlinks to a level, read one after the other along the level above: what is in hand of them, and the cursor of
-- laws_levels that this is.
use Rattle.std.specs.Prelude.{◌≡◌, ◌≤◌, ◌==◌, ℕ, Bool, true, false, List, [], ◌∷◌, None, if◌then◌else◌}
use Rattle.page_layout.specs.Page.{count_of, page_rule_of}
use Rattle.page_layout.specs.declared.page.PageKind.TheVariants.{Tree as tree_page}
use Rattle.laws_search.specs.Keys.{Separator}
use Rattle.laws_levels.specs.Cursor.{Cursor}
use Rattle.key_orders.specs.declared.columns.KeySpec.{KeySpec}
use Rattle.key_orders.specs.declared.columns.Value.{Value}
use Rattle.key_orders.specs.declared.more.MoreSpec.{MoreSpec}
use Rattle.key_orders.specs.declared.Tid.{Tid}
use Rattle.bt_meta.specs.Flags.{is_half_dead, is_leaf}
use Rattle.bt_meta.specs.Pages.{opaque_of}
use Rattle.bt_image.specs.Image.{first_data, page_image}
use Rattle.bt_image.specs.Pages.{IsDataItem}
use Rattle.bt_pages.specs.Trees.{Tree}
use Rattle.bt_level_check.specs.declared.downlinks.Downlinks.{Downlinks}
use Rattle.bt_level_check.specs.declared.downlinks.Hand.{Hand}
use Rattle.bt_level_check.specs.declared.downlinks.Hand.TheVariants.{Nothing, Root, Item}
use Rattle.bt_level_step.specs.Bounds.{Bound, IsBound}
use Rattle.bt_level_step.specs.Pages.{HasPlainItems, TreeDownlink, downlinks_from}
use Rattle.bt_level_check.specs.Reading.{IsReading}
use Rattle.bt_level_check.specs.Trees.{image_of}

-- its parts
abbrev pub page_of : Downlinks → List ℕ
page_of downlinks = downlinks.page

abbrev pub hand_of : Downlinks → Hand
hand_of downlinks = downlinks.hand

abbrev pub bound_of : Downlinks → Bound
bound_of downlinks = downlinks.lower

abbrev pub next_of : Downlinks → ℕ
next_of downlinks = downlinks.next

-- how many pages may still be read
abbrev pub turns_of : Downlinks → ℕ
turns_of downlinks = downlinks.turns_left

-- what is in hand
abbrev pub hand_downlinks : List KeySpec → List MoreSpec → (page : List ℕ) → (lower : Bound) → Hand → List TreeDownlink
hand_downlinks specs more page lower Nothing = []
hand_downlinks specs more page lower (Root b) = (None, b) ∷ []
hand_downlinks specs more page lower (Item i) = downlinks_from specs more page lower i

abbrev pub in_hand : List KeySpec → List MoreSpec → Downlinks → List TreeDownlink
in_hand specs more downlinks = hand_downlinks specs more downlinks.page downlinks.lower downlinks.hand

-- the lower bound of the page that is read next
abbrev pub hand_bound : List KeySpec → List MoreSpec → (page : List ℕ) → (lower : Bound) → Hand → Bound
hand_bound specs more page lower Nothing = lower
hand_bound specs more page lower (Root b) = lower
hand_bound specs more page lower (Item i) = (page_image specs more page).high_key

abbrev pub cursor_of : List KeySpec → List MoreSpec → Downlinks → Cursor (Separator Value Tid)
cursor_of specs more downlinks =
    record {
      items = in_hand specs more downlinks;
      lower = hand_bound specs more downlinks.page downlinks.lower downlinks.hand;
      block = downlinks.next;
    }

-- an item in hand can be read
abbrev pub IsSafeHand : (page : List ℕ) → Hand → Type 0
IsSafeHand page Nothing = Unit {0}
IsSafeHand page (Root b) = Unit {0}
IsSafeHand page (Item i) = (page_rule_of tree_page page ≡ None) × (1 ≤ i) × (i ≤ count_of page)

-- so it is whatever the files hold
pub record AreReadableDownlinks (specs : List KeySpec) (downlinks : Downlinks) : Type 0 where
  pub hand : IsSafeHand downlinks.page downlinks.hand
  pub lower : IsBound specs downlinks.lower

-- an item in hand is one of an internal page that breaks no rule
pub record IsInner (specs : List KeySpec) (more : List MoreSpec) (page : List ℕ) (i : ℕ) : Type 0 where
  pub data_item : IsDataItem page i
  pub items : HasPlainItems specs more page
  pub inner : is_leaf (opaque_of page) ≡ false
  pub whole : is_half_dead (opaque_of page) ≡ false

abbrev pub IsSoundHand : List KeySpec → List MoreSpec → (page : List ℕ) → Hand → Type 0
IsSoundHand specs more page Nothing = Unit {0}
IsSoundHand specs more page (Root b) = Unit {0}
IsSoundHand specs more page (Item i) = IsInner specs more page i

-- these downlinks are left, where the pages of the level above, which has this number, that are left to be read,
-- and all below it, are at most m
pub record Reads (tree : Tree) (dead : ℕ → Bool) (level m : ℕ) (downlinks : Downlinks) (left : List TreeDownlink)
    : Type 0 where
  pub hand : IsSoundHand tree.specs tree.more downlinks.page downlinks.hand
  pub reading : IsReading (image_of tree) dead level m (cursor_of tree.specs tree.more downlinks) left

-- a downlink is in hand, or none is left
abbrev pub is_held : Hand → Bool
is_held Nothing = false
is_held (Root b) = true
is_held (Item i) = true

abbrev pub settled_by : (held : Bool) → (next : ℕ) → Bool
settled_by true next = true
settled_by false next = next == 0

abbrev pub is_settled : Downlinks → Bool
is_settled downlinks = settled_by (is_held downlinks.hand) downlinks.next

abbrev pub IsSettled : Downlinks → Type 0
IsSettled downlinks = is_settled downlinks ≡ true

-- what comes in hand of a page
abbrev pub hand_after : (page : List ℕ) → (is_dead : Bool) → Hand
hand_after page is_dead = if is_dead then Nothing else Item (first_data page)

-- past the next downlink, behind which these are in hand
pub record HasAdvanced (specs : List KeySpec) (more : List MoreSpec) (old new : Downlinks) (ds : List TreeDownlink)
    : Type 0 where
  pub hand : IsSoundHand specs more new.page new.hand
  pub cursor : cursor_of specs more new
      ≡ record { items = ds; lower = (cursor_of specs more old).lower; block = (cursor_of specs more old).block }
