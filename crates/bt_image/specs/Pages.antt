-- The rules that a page of a tree may break by itself and with its neighbours, each by its sentence over the bytes.
use Rattle.std.specs.Prelude.{◌≡◌, ◌≢◌, ℕ, ◌+◌, ◌-◌, ◌<◌, ◌≤◌, Bool, true, false, not, ◌==◌, ◌&&◌, ◌||◌, nat_le}
use Rattle.std.specs.Prelude.{nat_lt, if◌then◌else◌, List, None}
use Rattle.std.specs.Ordering.{is_le, is_lt}
use Rattle.page_layout.specs.declared.page.PageKind.TheVariants.{Tree}
use Rattle.page_layout.specs.Page.{count_of, page_rule_of}
use Rattle.laws_search.specs.Keys.{Separator, compare_keys}
use Rattle.key_orders.specs.declared.columns.KeySpec.{KeySpec}
use Rattle.key_orders.specs.declared.columns.Value.{Value}
use Rattle.key_orders.specs.declared.more.MoreSpec.{MoreSpec}
use Rattle.key_orders.specs.declared.Tid.{Tid}
use Rattle.key_orders.specs.Keys.{columns_of, tid_order}
use Rattle.bt_meta.specs.Flags.{is_half_dead, is_leaf, is_meta}
use Rattle.bt_meta.specs.Pages.{KeepsMetaRules, is_idle, meta_of, opaque_of}
use Rattle.bt_tuples.specs.Keys.{first_key, last_key}
use Rattle.bt_tuples.specs.Rules.{KeepsItemRules, has_packed, tuple_of}
use Rattle.bt_image.specs.Image.{downlink_in, first_data, has_high_key, item_at, separator_in, spot_of}

-- there is a data item
abbrev pub has_data : List ℕ → Bool
has_data page = nat_le (first_data page) (count_of page)

-- B1: a flag beyond the nine that there are
unfoldable pub breaks_flags : List ℕ → Bool
breaks_flags page = nat_lt 0x01FF (opaque_of page).flags

-- B2: it is marked as the metapage, or is a leaf above level 0, or stands at level 0 and is no leaf
unfoldable pub breaks_level : List ℕ → Bool
breaks_level page =
    is_meta (opaque_of page) || (is_leaf (opaque_of page) && not ((opaque_of page).level == 0))
    || (not (is_leaf (opaque_of page)) && ((opaque_of page).level == 0))

-- B3: it is half-dead, and no leaf or not empty
unfoldable pub breaks_half_dead : List ℕ → Bool
breaks_half_dead page = is_half_dead (opaque_of page) && (not (is_leaf (opaque_of page)) || has_data page)

-- B4: it has a right sibling and no item, or is internal and has no data item
unfoldable pub breaks_items : List ℕ → Bool
breaks_items page =
    (has_high_key page && (count_of page == 0)) || (not (is_leaf (opaque_of page)) && not (has_data page))

-- The order of items

-- one key is below another, or at most equal to it
abbrev pub is_key_below : List KeySpec → Separator Value Tid → Separator Value Tid → Bool
is_key_below specs s t = is_lt (compare_keys (columns_of specs) tid_order s t)

abbrev pub is_key_within : List KeySpec → Separator Value Tid → Separator Value Tid → Bool
is_key_within specs s t = is_le (compare_keys (columns_of specs) tid_order s t)

-- the first data item that is compared with the one before it: on a leaf the second, on an internal page the third,
-- since the first of an internal page keeps nothing
abbrev pub first_compared : List ℕ → ℕ
first_compared page = if is_leaf (opaque_of page) then first_data page + 1 else first_data page + 2

-- B10: item i isn't above the item before it
unfoldable pub breaks_order : List KeySpec → List MoreSpec → List ℕ → ℕ → Bool
breaks_order specs more page i =
    nat_le (first_compared page) i
    && not (is_key_below specs (last_key (item_at specs more page (i - 1))) (first_key (item_at specs more page i)))

-- the last entry of a leaf is above the high key, or the last separator of an internal page isn't below it
abbrev pub is_past : List KeySpec → (leaf : Bool) → (last high : Separator Value Tid) → Bool
is_past specs true last high = not (is_key_within specs last high)
is_past specs false last high = not (is_key_below specs last high)

-- how many items a page has at least where its last one is compared with the high key
abbrev pub least_for_high_key : List ℕ → ℕ
least_for_high_key page = if is_leaf (opaque_of page) then first_data page else first_data page + 1

-- B11: the page has a high key, and the last entry of the leaf is above it; or the page is internal with two or more
-- data items, and the separator of the last isn't below it
unfoldable pub breaks_high_key : List KeySpec → List MoreSpec → List ℕ → Bool
breaks_high_key specs more page =
    has_high_key page && nat_le (least_for_high_key page) (count_of page)
    && is_past specs (is_leaf (opaque_of page)) (last_key (item_at specs more page (count_of page)))
    (separator_in (item_at specs more page 1))

-- The neighbours, in an index of so many blocks

-- a sibling isn't below the number of blocks, is idle, has another level or doesn't link back
abbrev pub is_bad_sibling : (blocks : ℕ) → (ℕ → List ℕ) → (b sibling back : ℕ) → Bool
is_bad_sibling blocks block b sibling back =
    nat_le blocks sibling || is_idle (block sibling)
    || not ((opaque_of (block sibling)).level == (opaque_of (block b)).level) || not (back == b)

-- B12: it has a left or a right sibling that is a bad one
unfoldable pub breaks_siblings : (blocks : ℕ) → (ℕ → List ℕ) → ℕ → Bool
breaks_siblings blocks block b =
    (not ((opaque_of (block b)).prev == 0)
    && is_bad_sibling blocks block b (opaque_of (block b)).prev (opaque_of (block (opaque_of (block b)).prev)).next)
    || (not ((opaque_of (block b)).next == 0)
    && is_bad_sibling blocks block b (opaque_of (block b)).next (opaque_of (block (opaque_of (block b)).next)).prev)

-- B13: a downlink is 0, not below the number of blocks, idle, or not one level down
unfoldable pub breaks_downlink : (blocks : ℕ) → (ℕ → List ℕ) → (level down : ℕ) → Bool
breaks_downlink blocks block level down =
    (down == 0) || nat_le blocks down || is_idle (block down) || not ((opaque_of (block down)).level + 1 == level)

-- All of them

-- the number is that of a data item
pub record IsDataItem (page : List ℕ) (i : ℕ) : Type 0 where
  pub from : first_data page ≤ i
  pub to : i ≤ count_of page

-- an item is in order, and none of its values is compressed
pub record IsPlainItem (specs : List KeySpec) (more : List MoreSpec) (page : List ℕ) (i : ℕ) : Type 0 where
  pub rules : KeepsItemRules specs more (spot_of page i) page i
  pub read : has_packed specs more (tuple_of page i) ≡ false

-- a page in use breaks none of the rules that it can break by itself and with its neighbours; a half-dead leaf's items
-- aren't read
pub record KeepsPage (specs : List KeySpec) (more : List MoreSpec) (blocks : ℕ) (block : ℕ → List ℕ)
    (b : ℕ) : Type 0 where
  pub laid_out : page_rule_of Tree (block b) ≡ None
  pub flags : breaks_flags (block b) ≡ false
  pub level : breaks_level (block b) ≡ false
  pub half_dead : breaks_half_dead (block b) ≡ false
  pub some_items : breaks_items (block b) ≡ false
  pub siblings : breaks_siblings blocks block b ≡ false
  pub items : is_half_dead (opaque_of (block b)) ≡ false
      → (i : ℕ) → 1 ≤ i → i ≤ count_of (block b) → IsPlainItem specs more (block b) i
  pub order : is_half_dead (opaque_of (block b)) ≡ false
      → (i : ℕ) → IsDataItem (block b) i → breaks_order specs more (block b) i ≡ false
  pub high_key : is_half_dead (opaque_of (block b)) ≡ false → breaks_high_key specs more (block b) ≡ false
  pub downlinks : is_leaf (opaque_of (block b)) ≡ false
      → (i : ℕ) → IsDataItem (block b) i
      → breaks_downlink blocks block (opaque_of (block b)).level (downlink_in (item_at specs more (block b) i)) ≡ false

-- the blocks of an index break none of M1, M2 and B1 to B13, and nothing of them is unjudged
pub record KeepsTreeRules (specs : List KeySpec) (more : List MoreSpec) (blocks : ℕ)
    (block : ℕ → List ℕ) : Type 0 where
  pub some : 0 < blocks
  pub metapage : KeepsMetaRules blocks (block 0)
  pub version : (meta_of (block 0)).version ≡ 4
  pub pages : (b : ℕ) → b ≢ 0 → b < blocks → is_idle (block b) ≡ false → KeepsPage specs more blocks block b
