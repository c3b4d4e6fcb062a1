-- The rules that one index tuple may break, each by its sentence.
use Rattle.std.specs.Prelude.{◌≡◌, ℕ, ◌+◌, ◌*◌, Bool, true, false, not, ◌==◌, ◌&&◌, ◌||◌, nat_lt, List, [], ◌∷◌, length}
use Rattle.std.specs.Prelude.{Option, Some, None, Ok, Err}
use Rattle.std.specs.Ordering.{is_lt}
use Rattle.page_layout.specs.declared.rules.Rule.{Rule}
use Rattle.page_layout.specs.declared.rules.Rule.TheVariants.{B5, B6, B7, B8, B9}
use Rattle.page_layout.specs.Items.{is_misplaced_tree_item}
use Rattle.page_layout.specs.Page.{item_of, piece_of, upper_of}
use Rattle.key_orders.specs.declared.columns.KeySpec.{KeySpec}
use Rattle.key_orders.specs.declared.more.MoreSpec.{MoreSpec}
use Rattle.key_orders.specs.declared.Tid.{Tid}
use Rattle.key_orders.specs.Keys.{tid_order}
use Rattle.key_attrs.specs.declared.keyed.KeyFault.TheVariants as fault
use Rattle.key_attrs.specs.Keyed.{KeyValues}
use Rattle.bt_meta.specs.declared.records.HeadKind.{HeadKind}
use Rattle.bt_meta.specs.declared.records.HeadKind.TheVariants.{Pivot, Plain, Posting}
use Rattle.bt_meta.specs.declared.records.TreeHead.{TreeHead}
use Rattle.bt_meta.specs.Heads.{tree_head_of}
use Rattle.bt_tuples.specs.declared.items.Spot3.{Spot3}
use Rattle.bt_tuples.specs.declared.items.Spot3.TheVariants.{HighKey, FirstInner, Inner, LeafItem}
use Rattle.bt_tuples.specs.Tuples.{body_begin, body_end, keeps_tid, number_of, size_of, tids_in, values_in}

-- the bytes that line pointer i of a page names
abbrev pub tuple_of : List ℕ → ℕ → List ℕ
tuple_of page i = piece_of page (item_of page i).off (item_of page i).len

-- B5: the line pointer isn't normal or dead, or points to no place where an index tuple can be
abbrev pub breaks_place : List ℕ → ℕ → Bool
breaks_place page i = is_misplaced_tree_item (upper_of page) (item_of page i)

-- B6: the tuple's size isn't the length of its line pointer
abbrev pub breaks_size : List ℕ → Bool
breaks_size tuple = not (size_of (tree_head_of tuple) == length tuple)

abbrev pub is_pivot : HeadKind → Bool
is_pivot Pivot = true
is_pivot Plain = false
is_pivot Posting = false

abbrev pub is_plain : HeadKind → Bool
is_plain Pivot = false
is_plain Plain = true
is_plain Posting = false

abbrev pub is_posting : HeadKind → Bool
is_posting Pivot = false
is_posting Plain = false
is_posting Posting = true

-- a separator keeps no value, or more than there are key columns, or a TID beside fewer than all
abbrev pub keeps_wrong : (columns : ℕ) → TreeHead → Bool
keeps_wrong columns head =
    number_of head == 0 || nat_lt columns (number_of head) || (keeps_tid head && nat_lt (number_of head) columns)

-- B7: the tuple isn't of the form that its place asks for, in an index of so many key columns that includes others or
-- not. A high key and an item of an internal page are pivots, and the first data item of an internal page keeps
-- nothing. A leaf's data item is no pivot, and where columns are included no posting tuple.
abbrev pub breaks_form : Spot3 → (columns : ℕ) → (includes : Bool) → TreeHead → Bool
breaks_form HighKey columns includes head = not (is_pivot head.kind) || keeps_wrong columns head
breaks_form FirstInner columns includes head = not (is_pivot head.kind) || not (number_of head == 0) || keeps_tid head
breaks_form Inner columns includes head = not (is_pivot head.kind) || keeps_wrong columns head
breaks_form LeafItem columns includes head = is_pivot head.kind || (includes && is_posting head.kind)

-- a value can't be read in the tuple; that one is compressed is no fault
abbrev pub is_unread : KeyValues → Bool
is_unread (Ok values) = false
is_unread (Err (fault.PastEnd column)) = true
is_unread (Err (fault.BadHeader column)) = true
is_unread (Err (fault.External column)) = true
is_unread (Err (fault.Packed column)) = false

abbrev pub is_packed : KeyValues → Bool
is_packed (Ok values) = false
is_packed (Err (fault.PastEnd column)) = false
is_packed (Err (fault.BadHeader column)) = false
is_packed (Err (fault.External column)) = false
is_packed (Err (fault.Packed column)) = true

-- the values begin past their end
abbrev pub begins_past_end : List ℕ → Bool
begins_past_end tuple = nat_lt (body_end (tree_head_of tuple) (length tuple)) (body_begin (tree_head_of tuple))

-- B8: the values begin past their end, or one of them can't be read in the tuple or stands elsewhere
abbrev pub breaks_values : List KeySpec → List MoreSpec → List ℕ → Bool
breaks_values specs more tuple = begins_past_end tuple || is_unread (values_in specs more tuple)

-- a TID isn't above the one before it, if there is one
abbrev pub is_not_above : Option Tid → Tid → Bool
is_not_above None t = false
is_not_above (Some before) t = not (is_lt (tid_order before t))

-- or has item number 0
abbrev pub is_wrong : Option Tid → Tid → Bool
is_wrong before t = t.item == 0 || is_not_above before t

-- one of the TIDs has item number 0, or isn't above the one before it
unfoldable pub are_not_rising : Option Tid → List Tid → Bool
are_not_rising before [] = false
are_not_rising before (t ∷ ts) = is_wrong before t || are_not_rising (Some t) ts

-- B9: the list of a posting tuple begins before the place of its values, passes the tuple's size, has no TID or doesn't
-- rise, or a TID of a leaf has item number 0
abbrev pub breaks_tids_by : HeadKind → List ℕ → Bool
breaks_tids_by Pivot tuple = false
breaks_tids_by Plain tuple = (tree_head_of tuple).item == 0
breaks_tids_by Posting tuple =
    nat_lt (tree_head_of tuple).block (body_begin (tree_head_of tuple))
    || nat_lt (length tuple) ((tree_head_of tuple).block + 6 * number_of (tree_head_of tuple))
    || number_of (tree_head_of tuple) == 0 || are_not_rising None (tids_in tuple)

abbrev pub breaks_tids : List ℕ → Bool
breaks_tids tuple = breaks_tids_by (tree_head_of tuple).kind tuple

-- U5: a value is compressed
abbrev pub has_packed : List KeySpec → List MoreSpec → List ℕ → Bool
has_packed specs more tuple = is_packed (values_in specs more tuple)

-- the index includes columns beside its key
abbrev pub includes_some : List MoreSpec → Bool
includes_some [] = false
includes_some (m ∷ ms) = true

-- this rule is one of B5 to B9, and item i of a page, at a place of this kind, breaks it
abbrev pub breaks_item_rule : List KeySpec → List MoreSpec → Spot3 → List ℕ → ℕ → Rule → Bool
breaks_item_rule specs more spot page i B5 = breaks_place page i
breaks_item_rule specs more spot page i B6 = breaks_size (tuple_of page i)
breaks_item_rule specs more spot page i B7 =
    breaks_form spot (length specs) (includes_some more) (tree_head_of (tuple_of page i))
breaks_item_rule specs more spot page i B8 = breaks_values specs more (tuple_of page i)
breaks_item_rule specs more spot page i B9 = breaks_tids (tuple_of page i)
breaks_item_rule specs more spot page i _ = false

-- it breaks none of them
pub record KeepsItemRules (specs : List KeySpec) (more : List MoreSpec) (spot : Spot3) (page : List ℕ)
    (i : ℕ) : Type 0 where
  pub place : breaks_place page i ≡ false
  pub size : breaks_size (tuple_of page i) ≡ false
  pub form : breaks_form spot (length specs) (includes_some more) (tree_head_of (tuple_of page i)) ≡ false
  pub values : breaks_values specs more (tuple_of page i) ≡ false
  pub tids : breaks_tids (tuple_of page i) ≡ false
