-- What is written into bytes: the bytes at a place are new, and all others stay.
use Rattle.std.specs.Prelude.{◌≤◌, ◌+◌, ◌/◌, ◌%◌, ◌⊎◌, ℕ, List, ◌++◌, drop, length, take}
use Rattle.byteorder.specs.Endian.{little_bytes}
use Rattle.page_layout.specs.declared.page.PageHeader.{PageHeader}

-- the bytes after this piece was written at a place within them
unfoldable pub with_bytes : List ℕ → ℕ → List ℕ → List ℕ
with_bytes bytes at piece = take at bytes ++ piece ++ drop (at + length piece) bytes

-- the two and the four bytes of a number, the lowest first
unfoldable pub u16_bytes : ℕ → List ℕ
u16_bytes number = little_bytes 2 number

unfoldable pub u32_bytes : ℕ → List ℕ
u32_bytes number = little_bytes 4 number

-- the four bytes of a block number: its high half before its low half
unfoldable pub block_bytes : ℕ → List ℕ
block_bytes block = u16_bytes (block / 65536) ++ u16_bytes (block % 65536)

-- the 24 bytes of a page's header
unfoldable pub header_bytes : PageHeader → List ℕ
header_bytes header =
    u32_bytes header.lsn_high ++ u32_bytes header.lsn_low ++ u16_bytes header.checksum ++ u16_bytes header.flags
    ++ u16_bytes header.lower ++ u16_bytes header.upper ++ u16_bytes header.special ++ u16_bytes header.version
    ++ u32_bytes header.prune_xid

-- the n bytes from one place on and the m bytes from another have none in common
abbrev pub AreApart : (a n b m : ℕ) → Type 0
AreApart a n b m = (a + n ≤ b) ⊎ (b + m ≤ a)
