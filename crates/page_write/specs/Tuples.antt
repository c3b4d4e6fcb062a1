-- The bytes of tuples: those of a table, and those of an index.
use Rattle.std.specs.Prelude.{ℕ, ◌+◌, ◌-◌, false, if◌then◌else◌, List, [], ◌∷◌, ◌++◌, length, take, drop, Option}
use Rattle.std.specs.Prelude.{Some, None}
use Rattle.page_layout.specs.Page.{max_align}
use Rattle.page_layout.specs.Writes.{block_bytes, u16_bytes, u32_bytes}
use Rattle.key_orders.specs.declared.Tid.{Tid}
use Rattle.tuple_head.specs.declared.HeapHead.{HeapHead}
use Rattle.page_write.specs.declared.index_tuples.BodyFlags.{BodyFlags}
use Rattle.page_write.specs.Pages.{zeros}

-- the 6 bytes of a TID
unfoldable pub tid_bytes : Tid → List ℕ
tid_bytes tid = block_bytes tid.block ++ u16_bytes tid.item

-- Tuples of a table

-- the 23 bytes of a tuple's header
unfoldable pub heap_head_bytes : HeapHead → List ℕ
heap_head_bytes head =
    u32_bytes head.xmin ++ u32_bytes head.xmax ++ u32_bytes head.field3 ++ block_bytes head.ctid.block
    ++ u16_bytes head.ctid.item ++ u16_bytes head.infomask2 ++ u16_bytes head.infomask ++ head.hoff ∷ []

-- the header, the null bits, if there are any, zeros up to the place of the attributes, and the attributes
unfoldable pub heap_tuple : HeapHead → (nulls body : List ℕ) → List ℕ
heap_tuple head nulls body = heap_head_bytes head ++ nulls ++ zeros (head.hoff - 23 - length nulls) ++ body

-- Tuples of an index

-- what the info word says of a tuple's body: it begins with null bits (0x8000), and it has a value of variable width
-- (0x4000)
abbrev pub masks_of : BodyFlags → ℕ
masks_of flags = (if flags.nulls then 0x8000 else 0) + (if flags.varwidth then 0x4000 else 0)

-- there are no nulls, and no values of variable width
abbrev pub fixed_width : BodyFlags
fixed_width = record { nulls = false; varwidth = false }

-- the 8 bytes with which a tuple begins
unfoldable pub index_head_bytes : (block item info : ℕ) → List ℕ
index_head_bytes block item info = block_bytes block ++ u16_bytes item ++ u16_bytes info

-- the bytes of the head and of a body of so many bytes: a multiple of 8
abbrev pub index_size : ℕ → ℕ
index_size len = max_align (8 + len)

-- a body, and zeros up to that size
unfoldable pub padded_body : List ℕ → List ℕ
padded_body body = body ++ zeros (index_size (length body) - (8 + length body))

-- an entry of a leaf with one TID
unfoldable pub plain_tuple : Tid → BodyFlags → (body : List ℕ) → List ℕ
plain_tuple tid flags body =
    index_head_bytes tid.block tid.item (masks_of flags + index_size (length body)) ++ padded_body body

-- a pivot's TID stands in its last 6 bytes, after 2 that are 0
unfoldable pub kept_tid_bytes : Option Tid → List ℕ
kept_tid_bytes None = []
kept_tid_bytes (Some tid) = zeros 2 ++ tid_bytes tid

-- the bits of a pivot's item number that say that it keeps a TID
abbrev pub tid_mask : Option Tid → ℕ
tid_mask None = 0
tid_mask (Some tid) = 0x1000

-- how many bytes a TID adds to a pivot
abbrev pub tid_room : Option Tid → ℕ
tid_room None = 0
tid_room (Some tid) = 8

-- a separator with its downlink, 0 in a high key: the body has the first `kept` values, and a TID may stand after them
unfoldable pub pivot_tuple : (down kept : ℕ) → Option Tid → BodyFlags → (body : List ℕ) → List ℕ
pivot_tuple down kept tid flags body =
    index_head_bytes down (kept + tid_mask tid) (0x2000 + masks_of flags + index_size (length body) + tid_room tid)
    ++ padded_body body ++ kept_tid_bytes tid

-- What a reader finds in the bytes after a head

-- the values, after the null bits, if there are any
abbrev pub values_part : BodyFlags → List ℕ → List ℕ
values_part flags bytes = if flags.nulls then drop 8 bytes else bytes

abbrev pub nulls_part : BodyFlags → List ℕ → Option (List ℕ)
nulls_part flags bytes = if flags.nulls then Some (take 4 bytes) else None

-- of a pivot they end at its TID
unfoldable pub before_tid : Option Tid → (body : List ℕ) → List ℕ
before_tid None body = padded_body body
before_tid (Some tid) body = padded_body body ++ zeros 2
