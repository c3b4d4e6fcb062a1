-- A page of an index, as a search reads it.
use Rattle.std.specs.Prelude.{◌≡◌, ℕ, ◌≤◌, Bool, false, not, ◌&&◌, List, None}
use Rattle.page_layout.specs.Page.{count_of, page_rule_of}
use Rattle.page_layout.specs.declared.page.PageKind.TheVariants.{Tree}
use Rattle.laws_search.specs.Keys.{Entry, Separator}
use Rattle.laws_search.specs.Order.{Scan}
use Rattle.key_orders.specs.declared.columns.Value.{Value}
use Rattle.key_orders.specs.declared.Tid.{Tid}
use Rattle.key_attrs.specs.Columns.{TreeColumns}
use Rattle.bt_meta.specs.Flags.{is_half_dead, is_leaf}
use Rattle.bt_meta.specs.Pages.{is_idle, opaque_of}
use Rattle.bt_image.specs.Pages.{IsDataItem, IsPlainItem, breaks_items, breaks_order}

-- an entry that a scan passes over though it matches
abbrev pub is_killed : Entry Value Tid → Bool
is_killed e = e.killed

-- a leaf in use that isn't half-dead
abbrev pub is_live_leaf : List ℕ → Bool
is_live_leaf page = is_leaf (opaque_of page) && (not (is_idle page) && not (is_half_dead (opaque_of page)))

-- a scan, as the searcher sees it
abbrev pub KeyScan : Type 0
KeyScan = Scan (Separator Value Tid) (Entry Value Tid)

-- what the rules leave of a page in use, as far as a search reads it. A half-dead leaf's items aren't read
pub record IsReadable (columns : TreeColumns) (page : List ℕ) : Type 0 where
  pub laid_out : page_rule_of Tree page ≡ None
  pub some_items : breaks_items page ≡ false
  pub items : is_half_dead (opaque_of page) ≡ false
      → (i : ℕ) → 1 ≤ i → i ≤ count_of page → IsPlainItem columns.specs columns.more page i
  pub order : is_half_dead (opaque_of page) ≡ false
      → (i : ℕ) → IsDataItem page i → breaks_order columns.specs columns.more page i ≡ false
