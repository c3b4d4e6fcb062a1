-- How rows are kept: a slot for each line pointer, block after block, with the place of the key of the row that is
-- rooted there, or with the key where it is one number below 2147483648; the other keys side by side; and a bit for
-- each slot, whether its row was met. Slots count from 0.
use Rattle.std.specs.Prelude.{◌≡◌, ◌≢◌, ◌+◌, ◌-◌, ◌*◌, ◌<◌, ◌≤◌, ◌==◌, ◌&&◌, ◌||◌, ◌∷◌, ◌++◌, [], ℕ}
use Rattle.std.specs.Prelude.{All, Bool, List, None, Option, Some, cond, drop, false, get_or, length, nat_le, nat_lt}
use Rattle.std.specs.Prelude.{replicate, slice_get, true}
use Rattle.std.specs.List.{flat_map}
use Rattle.key_orders.specs.declared.Tid.{Tid}
use Rattle.key_orders.specs.declared.columns.Value.{Value}
use Rattle.key_storage.specs.RowLists.{LiesAt, NUMBERS, number_bytes}
use Rattle.key_storage.specs.Stored.{IsStorable, key_read, stored_value}
use Rattle.page_layout.specs.Bits.{is_set}
use Rattle.join_slots.specs.declared.slots.BegunRow.{BegunRow}
use Rattle.join_slots.specs.Met.{Keys, Mets, same_tid}

-- the line pointer is an item of that block, which has so many
abbrev pub is_item_of : ℕ → ℕ → Tid → Bool
is_item_of block count tid = (tid.block == block) && (nat_le 1 tid.item && nat_le tid.item count)

-- a key at one line pointer
abbrev pub keys_with : Keys → Tid → List Value → Keys
keys_with keys at key tid = cond (same_tid tid at) (Some key) (keys tid)

-- keys at the line pointers of a block, from item 1 on
abbrev pub keys_with_rows : Keys → (block : ℕ) → List (List Value) → Keys
keys_with_rows keys block rows tid =
    cond (is_item_of block (length rows) tid) (slice_get rows (tid.item - 1)) (keys tid)

-- The starts are those of the blocks, and last the end of the last block.

abbrev pub start_of : ℕ → List ℕ → Tid → ℕ
start_of first starts tid = get_or starts (tid.block - first) 0

abbrev pub next_of : ℕ → List ℕ → Tid → ℕ
next_of first starts tid = get_or starts (tid.block - first + 1) 0

unfoldable pub is_within : ℕ → List ℕ → Tid → Bool
is_within first starts tid =
    nat_le first tid.block && (nat_lt (tid.block - first + 1) (length starts)
    && (nat_le 1 tid.item && nat_le (start_of first starts tid + tid.item) (next_of first starts tid)))

abbrev pub slot_of : ℕ → List ℕ → Tid → ℕ
slot_of first starts tid = start_of first starts tid + tid.item - 1

abbrev pub found_slot : ℕ → List ℕ → Tid → Option ℕ
found_slot first starts tid = cond (is_within first starts tid) (Some (slot_of first starts tid)) None

-- the bytes at which the key of a slot is read
abbrev pub slot_bytes : List ℕ → ℕ → List ℕ
slot_bytes arena r = cond (nat_lt r NUMBERS) (drop (r - 1) arena) (number_bytes (r - NUMBERS))

-- 0 says that no row is rooted there; any other number below `NUMBERS` is one more than the place of the key
unfoldable pub key_of : List ℕ → ℕ → Option (List Value)
key_of arena r = cond (r == 0) None (Some (key_read (slot_bytes arena r)))

unfoldable pub keys_of : ℕ → List ℕ → List ℕ → List ℕ → Keys
keys_of first starts records arena tid =
    cond (is_within first starts tid) (key_of arena (get_or records (slot_of first starts tid) 0)) None

unfoldable pub mets_of : ℕ → List ℕ → List ℕ → Mets
mets_of first starts bits tid = is_within first starts tid && is_set bits (slot_of first starts tid)

-- What is true of the tables: the starts don't fall and end with the slots, there is a bit for each slot and none set
-- behind them, and a key lies where a slot says it.
pub record AreStarts (starts records : List ℕ) : Type 0 where
  pub begun : 1 ≤ length starts
  pub ordered : (j k : ℕ) → j ≤ k → k < length starts → get_or starts j 0 ≤ get_or starts k 0
  pub end : get_or starts (length starts - 1) 0 ≡ length records

pub record AreBits (records bits : List ℕ) : Type 0 where
  pub room : length records ≤ 8 * length bits
  pub clear : (p : ℕ) → length records ≤ p → is_set bits p ≡ false

unfoldable pub AreKept : List ℕ → List ℕ → Type 0
AreKept records arena = (k r : ℕ) → get_or records k 0 ≡ r + 1 → r + 1 < NUMBERS → LiesAt arena r

-- of the first so many slots, each that has a row has its bit set
abbrev pub AreAllSet : List ℕ → List ℕ → ℕ → Type 0
AreAllSet records bits n = (k : ℕ) → k < n → get_or records k 0 ≢ 0 → is_set bits k ≡ true

-- starts and slots with those of one block more
pub record AddsBlock (starts records : List ℕ) (items : ℕ) (new_starts new_records : List ℕ) : Type 0 where
  pub starts_are : new_starts ≡ starts ++ (length records + items) ∷ []
  pub records_are : new_records ≡ records ++ replicate items 0

-- What contracts see of the slots: the tables, which clauses read by these words alone: the first block, how many
-- blocks there are, which line pointers have a slot, the key of the row that is rooted at each, and whether it was met.
pub record Tables : Type 0 where
  pub first : ℕ
  pub starts : List ℕ
  pub records : List ℕ
  pub arena : List ℕ
  pub bits : List ℕ

abbrev pub blocks_in : Tables → ℕ
blocks_in t = length t.starts - 1

abbrev pub has_in : Tables → Tid → Bool
has_in t = is_within t.first t.starts

abbrev pub keys_in : Tables → Keys
keys_in t = keys_of t.first t.starts t.records t.arena

abbrev pub met_in : Tables → Mets
met_in t = mets_of t.first t.starts t.bits

-- A row whose values are written one after another behind the keys of others, to be rooted at a line pointer: its slot,
-- which has no row yet, what that will say, and of so many values the first.
pub record IsBegunRow (t : Tables) (row : BegunRow) (tid : Tid) (count : ℕ) (values : List Value) : Type 0 where
  pub slot_is : Some row.slot ≡ found_slot t.first t.starts tid
  pub free : get_or t.records row.slot 0 ≡ 0
  pub before : List ℕ
  pub place_is : row.place ≡ length before + 1
  pub low : row.place < NUMBERS
  pub storable : All IsStorable values
  pub bytes : t.arena ≡ before ++ (count ∷ flat_map stored_value values)

-- all of its values are written
pub record IsWrittenRow (t : Tables) (row : BegunRow) : Type 0 where
  pub tid : Tid
  pub values : List Value
  pub is : IsBegunRow t row tid (length values) values

-- the same blocks with the same slots
pub record SameRange (old new : Tables) : Type 0 where
  pub first : new.first ≡ old.first
  pub blocks : blocks_in new ≡ blocks_in old
  pub has : has_in new ≡ has_in old

-- no block yet
pub record IsBegun (first : ℕ) (t : Tables) : Type 0 where
  pub first_is : t.first ≡ first
  pub blocks : blocks_in t ≡ 0
  pub has : (tid : Tid) → has_in t tid ≡ false
  pub keys : (tid : Tid) → keys_in t tid ≡ None
  pub met : (tid : Tid) → met_in t tid ≡ false

-- one block more, none of whose rows has come
pub record HasBlock (old : Tables) (items : ℕ) (new : Tables) : Type 0 where
  pub first : new.first ≡ old.first
  pub blocks : blocks_in new ≡ blocks_in old + 1
  pub has : (tid : Tid) → has_in new tid ≡ (has_in old tid || is_item_of (old.first + blocks_in old) items tid)
  pub keys : (tid : Tid) → keys_in new tid ≡ keys_in old tid
  pub met : (tid : Tid) → met_in new tid ≡ met_in old tid

-- each row that is kept was met
abbrev pub AreAllMet : Tables → Type 0
AreAllMet t = (tid : Tid) (key : List Value) → keys_in t tid ≡ Some key → met_in t tid ≡ true
