-- A page that is laid out: its header, the line pointers of its items, free space, the items' storage, and the special
-- space. Storage is given from the special space downward, so that the first item lies highest.
use Rattle.std.specs.Prelude.{ℕ, ◌+◌, ◌-◌, ◌*◌, ◌≤◌, List, [], ◌∷◌, ◌++◌, length, replicate, sum_by}
use Rattle.page_layout.specs.Page.{max_align}
use Rattle.page_layout.specs.Writes.{header_bytes, u16_bytes, u32_bytes}
use Rattle.page_layout.specs.declared.page.PageHeader.{PageHeader}
use Rattle.bt_meta.specs.declared.records.Meta.{Meta}
use Rattle.bt_meta.specs.declared.records.Opaque.{Opaque}

-- so many bytes that are 0
unfoldable pub zeros : ℕ → List ℕ
zeros n = replicate n 0

-- The header

-- the line pointers end at `lower`, the storage begins at `upper` and the special space at `special`; the size is 8192
-- bytes and the layout is version 4, and nothing else is said
unfoldable pub header_with : (lower upper special : ℕ) → PageHeader
header_with lower upper special = record {
  lsn_high = 0;
  lsn_low = 0;
  checksum = 0;
  flags = 0;
  lower = lower;
  upper = upper;
  special = special;
  version = 0x2004;
  prune_xid = 0;
}

-- The items

-- the bytes that an item takes: it begins at a multiple of 8
abbrev pub room_of : List ℕ → ℕ
room_of item = max_align (length item)

-- what all of them take
unfoldable pub room_for : List (List ℕ) → ℕ
room_for items = sum_by room_of items

-- the storage of an item: its bytes, and zeros up to the storage above it
unfoldable pub storage_of : List ℕ → List ℕ
storage_of item = item ++ zeros (room_of item - length item)

-- the storage of all items, that of the last one lowest
unfoldable pub storages : List (List ℕ) → List ℕ
storages [] = []
storages (item ∷ items) = storages items ++ storage_of item

-- a line pointer to storage in use: its offset, the flag 1 and its length
unfoldable pub pointer_bytes : (off len : ℕ) → List ℕ
pointer_bytes off len = u32_bytes (off + 32768 + 131072 * len)

-- the line pointers of items, of which the first lies right below a place, and each other one right below the item
-- before it
unfoldable pub pointers_below : ℕ → List (List ℕ) → List ℕ
pointers_below place [] = []
pointers_below place (item ∷ items) =
    pointer_bytes (place - room_of item) (length item) ++ pointers_below (place - room_of item) items

-- where the line pointers of so many items end
abbrev pub lower_for : List (List ℕ) → ℕ
lower_for items = 24 + 4 * length items

-- the line pointers and the storage of these items meet at most, on a page whose special space begins at a place
abbrev pub FitsBelow : ℕ → List (List ℕ) → Type 0
FitsBelow special items = lower_for items + room_for items ≤ special

-- The pages

-- a page with these items and these bytes of special space, which begins at `special`
unfoldable pub page_with : (special : ℕ) → List (List ℕ) → List ℕ → List ℕ
page_with special items tail =
    header_bytes (header_with (lower_for items) (special - room_for items) special) ++ pointers_below special items
    ++ zeros (special - room_for items - lower_for items) ++ storages items ++ tail

-- a page of a table
abbrev pub heap_page : List (List ℕ) → List ℕ
heap_page items = page_with 8192 items []

-- the special space of a tree page
unfoldable pub opaque_bytes : Opaque → List ℕ
opaque_bytes special =
    u32_bytes special.prev ++ u32_bytes special.next ++ u32_bytes special.level ++ u16_bytes special.flags
    ++ u16_bytes special.cycle

-- a page of a tree
abbrev pub tree_page : List (List ℕ) → Opaque → List ℕ
tree_page items special = page_with 8176 items (opaque_bytes special)

-- the special space of a metapage: the flag BTP_META alone
abbrev pub meta_special : Opaque
meta_special = record { prev = 0; next = 0; level = 0; flags = 8; cycle = 0 }

-- the numbers of a tree
unfoldable pub meta_bytes : Meta → List ℕ
meta_bytes meta =
    u32_bytes meta.magic ++ u32_bytes meta.version ++ u32_bytes meta.root ++ u32_bytes meta.level
    ++ u32_bytes meta.fastroot ++ u32_bytes meta.fastlevel

-- block 0 of a tree: its numbers stand right after the header, and the header's lower place is their end
unfoldable pub meta_page : Meta → List ℕ
meta_page meta =
    header_bytes (header_with 72 8176 8176) ++ meta_bytes meta ++ zeros 8128 ++ opaque_bytes meta_special
