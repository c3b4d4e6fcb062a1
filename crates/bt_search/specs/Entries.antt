-- The entries of a leaf by its items: where they stand among those of the page, and how one is read.
use Rattle.std.specs.Prelude.{◌≡◌, ℕ, ◌<◌, ◌≤◌, List, [], length, None, Option, Some, slice_get}
use Rattle.page_layout.specs.Page.{count_of, page_rule_of}
use Rattle.page_layout.specs.declared.page.PageKind.TheVariants.{Tree}
use Rattle.laws_search.specs.Keys.{Entry}
use Rattle.key_orders.specs.declared.columns.Value.{Value}
use Rattle.key_orders.specs.declared.Tid.{Tid}
use Rattle.key_attrs.specs.Columns.{TreeColumns}
use Rattle.bt_image.specs.Image.{LeafEntry, entries_in, item_at}
use Rattle.bt_search.specs.declared.spot.EntryRef.{EntryRef}
use Rattle.bt_search.specs.declared.spot.Spot.{Spot}
use Rattle.bt_steps.specs.Entries.{IsRead, keys_at}

-- there is an entry at this place of the page
pub record IsEntryAt (columns : TreeColumns) (page : List ℕ) (at : Spot) : Type 0 where
  pub laid_out : page_rule_of Tree page ≡ None
  pub first : 1 ≤ at.item
  pub last : at.item ≤ count_of page
  pub read : IsRead columns page at.item
  pub inside : at.nth < length (keys_at columns page at.item)

-- it is this one
abbrev pub entry_on : TreeColumns → List ℕ → Spot → Option (Entry Value Tid)
entry_on columns page at = slice_get (keys_at columns page at.item) at.nth

-- its included values
abbrev pub included_in : Option LeafEntry → List Value
included_in None = []
included_in (Some e) = e.more

abbrev pub included_on : TreeColumns → List ℕ → Spot → List Value
included_on columns page at =
    included_in (slice_get (entries_in (item_at columns.specs columns.more page at.item)) at.nth)

-- an entry as it lies on a page
pub record Shows (shown : EntryRef) (e : Entry Value Tid) : Type 0 where
  pub key : shown.key ≡ e.values
  pub tid : shown.tid ≡ e.tid
