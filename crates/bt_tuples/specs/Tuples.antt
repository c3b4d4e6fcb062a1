-- An index tuple in its bytes: its head, where its values begin and end, which columns it has, and its TIDs.
use Rattle.std.specs.Prelude.{ℕ, zero, suc, ◌+◌, ◌-◌, ◌%◌, Bool, min, if◌then◌else◌, List, [], ◌∷◌, ◌++◌, length}
use Rattle.std.specs.Prelude.{take, drop, Option, Some, None}
use Rattle.key_orders.specs.declared.columns.ColType.{ColType}
use Rattle.key_orders.specs.declared.columns.KeySpec.{KeySpec}
use Rattle.key_orders.specs.declared.more.MoreSpec.{MoreSpec}
use Rattle.key_orders.specs.declared.Tid.{Tid}
use Rattle.page_layout.specs.Page.{block_at, has_bit, u16_at}
use Rattle.key_attrs.specs.Keyed.{KeyValues, key_types, key_values, more_types}
use Rattle.varlena_attrs.specs.Forms.{bytes_between}
use Rattle.bt_meta.specs.declared.records.HeadKind.{HeadKind}
use Rattle.bt_meta.specs.declared.records.HeadKind.TheVariants.{Pivot, Plain, Posting}
use Rattle.bt_meta.specs.declared.records.TreeHead.{TreeHead}
use Rattle.bt_meta.specs.Heads.{tree_head_of}

-- The head

-- the size that the info word states
abbrev pub size_of : TreeHead → ℕ
size_of head = head.info % 0x2000

-- the tuple has nulls, and so null bits
unfoldable pub has_null_bits : TreeHead → Bool
has_null_bits head = has_bit head.info 0x8000

-- of a pivot: how many values it keeps; of a posting tuple: how many TIDs it lists
abbrev pub number_of : TreeHead → ℕ
number_of head = head.item % 0x1000

-- a pivot keeps a TID, in its last 6 bytes
unfoldable pub keeps_tid : TreeHead → Bool
keeps_tid head = has_bit head.item 0x1000

-- The body

-- the values begin after the head, or, where there are null bits, after these and their padding
abbrev pub body_begin : TreeHead → ℕ
body_begin head = if has_null_bits head then 16 else 8

-- and end with the tuple, before a pivot's TID, or at a posting tuple's list
abbrev pub end_by : HeadKind → TreeHead → (size : ℕ) → ℕ
end_by Plain head size = size
end_by Pivot head size = if keeps_tid head then size - 6 else size
end_by Posting head size = min head.block size

abbrev pub body_end : TreeHead → (size : ℕ) → ℕ
body_end head size = end_by head.kind head size

abbrev pub body_in : List ℕ → List ℕ
body_in tuple = bytes_between tuple (body_begin (tree_head_of tuple)) (body_end (tree_head_of tuple) (length tuple))

-- the null bits are those of the 4 bytes after the head
abbrev pub null_bits_in : List ℕ → Option (List ℕ)
null_bits_in tuple = if has_null_bits (tree_head_of tuple) then Some (take 4 (drop 8 tuple)) else None

-- a pivot has the first columns of the key; a leaf's tuple has them all, and after them the included ones
abbrev pub columns_by : HeadKind → TreeHead → List KeySpec → List MoreSpec → List ColType
columns_by Pivot head specs more = key_types (take (number_of head) specs)
columns_by Plain head specs more = key_types specs ++ more_types more
columns_by Posting head specs more = key_types specs ++ more_types more

abbrev pub columns_in : List KeySpec → List MoreSpec → List ℕ → List ColType
columns_in specs more tuple = columns_by (tree_head_of tuple).kind (tree_head_of tuple) specs more

-- the values of the tuple, or why they can't be told
unfoldable pub values_in : List KeySpec → List MoreSpec → List ℕ → KeyValues
values_in specs more tuple = key_values (columns_in specs more tuple) (body_in tuple) (null_bits_in tuple)

-- TIDs

-- the TID in the 6 bytes at a place: the block, in two halves of which the high one is first, and the item
unfoldable pub tid_at : List ℕ → ℕ → Tid
tid_at bytes at = record { block = block_at bytes at; item = u16_at bytes (at + 4) }

-- so many TIDs, one after the other from a place on
unfoldable pub tids_at : List ℕ → ℕ → ℕ → List Tid
tids_at bytes at zero = []
tids_at bytes at (suc n) = tid_at bytes at ∷ tids_at bytes (at + 6) n

-- the TIDs of a posting tuple stand at the place that the block field names
abbrev pub tids_in : List ℕ → List Tid
tids_in tuple = tids_at tuple (tree_head_of tuple).block (number_of (tree_head_of tuple))

-- the TID of a plain tuple is in its head
abbrev pub plain_tid : TreeHead → Tid
plain_tid head = record { block = head.block; item = head.item }

-- the TID that a pivot keeps
abbrev pub kept_tid : List ℕ → Option Tid
kept_tid tuple = if keeps_tid (tree_head_of tuple) then Some (tid_at tuple (length tuple - 6)) else None
