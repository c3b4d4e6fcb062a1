-- What the header of a heap tuple says: its fields, a test for each thing that its bits say, and the rules H4 to H8.
-- A word's bits are named as in access/htup_details.h, without their prefix HEAP_.
use Rattle.std.specs.Prelude.{◌≡◌, ℕ, ◌+◌, ◌-◌, ◌*◌, ◌/◌, ◌≤◌, Bool, true, false, not, ◌==◌, ◌&&◌, ◌||◌, nat_le}
use Rattle.std.specs.Prelude.{nat_lt, bit_and, if◌then◌else◌, List, [], ◌∷◌, get_or, Option, find}
use Rattle.page_layout.specs.Page.{block_at, has_bit, max_align, u16_at, u32_at}
use Rattle.page_layout.specs.declared.rules.Rule.{Rule}
use Rattle.page_layout.specs.declared.rules.Rule.TheVariants.{H4, H5, H6, H7, H8}
use Rattle.tuple_head.specs.declared.HeapHead.{HeapHead}

-- the header in a tuple's first bytes
unfoldable pub tuple_head_of : List ℕ → HeapHead
tuple_head_of bytes = record {
  xmin = u32_at bytes 0;
  xmax = u32_at bytes 4;
  field3 = u32_at bytes 8;
  ctid = record { block = block_at bytes 12; item = u16_at bytes 16 };
  infomask2 = u16_at bytes 18;
  infomask = u16_at bytes 20;
  hoff = get_or bytes 22 0;
}

-- The tests, a bit or some bits each.

-- HASNULL: there are null bits
unfoldable pub has_nulls : HeapHead → Bool
has_nulls head = has_bit head.infomask 0x0001

-- XMIN_COMMITTED
unfoldable pub is_xmin_committed : HeapHead → Bool
is_xmin_committed head = has_bit head.infomask 0x0100

-- XMAX_COMMITTED
unfoldable pub is_xmax_committed : HeapHead → Bool
is_xmax_committed head = has_bit head.infomask 0x0400

-- XMAX_INVALID
unfoldable pub is_xmax_invalid : HeapHead → Bool
is_xmax_invalid head = has_bit head.infomask 0x0800

-- XMAX_IS_MULTI: xmax is a multixact
unfoldable pub is_multi : HeapHead → Bool
is_multi head = has_bit head.infomask 0x1000

-- UPDATED: the tuple was made by an update
unfoldable pub is_updated : HeapHead → Bool
is_updated head = has_bit head.infomask 0x2000

-- MOVED_OFF or MOVED_IN
unfoldable pub is_moved : HeapHead → Bool
is_moved head = has_bit head.infomask 0x4000 || has_bit head.infomask 0x8000

-- HASOID_OLD, MOVED_OFF or MOVED_IN
unfoldable pub is_old_form : HeapHead → Bool
is_old_form head = has_bit head.infomask 0x0008 || is_moved head

-- XMIN_COMMITTED and XMIN_INVALID
unfoldable pub is_frozen : HeapHead → Bool
is_frozen head = is_xmin_committed head && has_bit head.infomask 0x0200

-- XMIN_INVALID alone
unfoldable pub is_hinted_invalid : HeapHead → Bool
is_hinted_invalid head = has_bit head.infomask 0x0200 && not (is_xmin_committed head)

-- the inserter as a reader sees it: 2, the frozen transaction, where the tuple is frozen
unfoldable pub seen_xmin : HeapHead → ℕ
seen_xmin head = if is_frozen head then 2 else head.xmin

-- XMAX_LOCK_ONLY, or of XMAX_IS_MULTI, XMAX_EXCL_LOCK and XMAX_KEYSHR_LOCK exactly XMAX_EXCL_LOCK
unfoldable pub is_locked_only : HeapHead → Bool
is_locked_only head = has_bit head.infomask 0x0080 || (bit_and head.infomask 0x1050 == 0x0040)

-- HOT_UPDATED, and neither XMAX_INVALID nor an inserter that is hinted invalid
unfoldable pub is_hot_updated : HeapHead → Bool
is_hot_updated head = has_bit head.infomask2 0x4000 && not (is_xmax_invalid head) && not (is_hinted_invalid head)

-- ONLY_TUPLE: no index entry names the tuple
unfoldable pub is_heap_only : HeapHead → Bool
is_heap_only head = has_bit head.infomask2 0x8000

-- xmax is a multixact, or a transaction from 3, the first normal one, on
unfoldable pub is_xmax_unfrozen : HeapHead → Bool
is_xmax_unfrozen head = if is_multi head then not (head.xmax == 0) else nat_le 3 head.xmax

-- some field names a transaction or a multixact that a freeze would take out
unfoldable pub needs_freezing : HeapHead → Bool
needs_freezing head = nat_le 3 (seen_xmin head) || is_xmax_unfrozen head || is_moved head

-- how many attributes are stored: NATTS_MASK
unfoldable pub natts_of : HeapHead → ℕ
natts_of head = bit_and head.infomask2 0x07FF

-- where the attributes begin: after the null bits, if there are any
unfoldable pub expected_hoff : HeapHead → ℕ
expected_hoff head = if has_nulls head then max_align (23 + (natts_of head + 7) / 8) else 24

-- The rules, each by what is wrong where it is broken.

-- H4
abbrev pub has_more_attributes_than_columns : ℕ → HeapHead → Bool
has_more_attributes_than_columns columns head = nat_lt columns (natts_of head)

-- H5: the attributes begin at another place, or past the tuple's end
abbrev pub has_misplaced_attributes : ℕ → HeapHead → Bool
has_misplaced_attributes len head = not (head.hoff == expected_hoff head) || nat_lt len head.hoff

-- H6
abbrev pub has_multixact_hinted_committed : HeapHead → Bool
has_multixact_hinted_committed head = is_multi head && is_xmax_committed head

-- H7
abbrev pub is_hot_updated_by_no_transaction : HeapHead → Bool
is_hot_updated_by_no_transaction head = is_hot_updated head && not (is_multi head) && (head.xmax == 0)

-- H8
abbrev pub is_heap_only_without_update : HeapHead → Bool
is_heap_only_without_update head = is_heap_only head && not (is_updated head)

-- this rule is one of H4 to H8, and the header of a tuple of this length, in a table of so many columns, breaks it
abbrev pub breaks_head_rule : ℕ → ℕ → HeapHead → Rule → Bool
breaks_head_rule columns len head H4 = has_more_attributes_than_columns columns head
breaks_head_rule columns len head H5 = has_misplaced_attributes len head
breaks_head_rule columns len head H6 = has_multixact_hinted_committed head
breaks_head_rule columns len head H7 = is_hot_updated_by_no_transaction head
breaks_head_rule columns len head H8 = is_heap_only_without_update head
breaks_head_rule columns len head _ = false

-- the rules of headers, in the order in which they are asked
abbrev pub head_rules : List Rule
head_rules = H4 ∷ H5 ∷ H6 ∷ H7 ∷ H8 ∷ []

-- the first of them that is broken
unfoldable pub head_rule_of : ℕ → ℕ → HeapHead → Option Rule
head_rule_of columns len head = find (breaks_head_rule columns len head) head_rules

-- none of them is broken
pub record KeepsHeadRules (columns len : ℕ) (head : HeapHead) : Type 0 where
  pub count : has_more_attributes_than_columns columns head ≡ false
  pub place : has_misplaced_attributes len head ≡ false
  pub multixact : has_multixact_hinted_committed head ≡ false
  pub update : is_hot_updated_by_no_transaction head ≡ false
  pub chain : is_heap_only_without_update head ≡ false

-- there are no more attributes than columns, the header ends within the tuple, and from byte 23 on it has a bit for
-- each attribute
pub record PlacesAttributes (columns len : ℕ) (head : HeapHead) : Type 0 where
  pub natts : natts_of head ≤ columns
  pub begins : 24 ≤ head.hoff
  pub within : head.hoff ≤ len
  pub nulls : has_nulls head ≡ true → natts_of head ≤ 8 * (head.hoff - 23)
