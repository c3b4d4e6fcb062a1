-- Where the bits of heap blocks stand in the visibility map. Blocks and bytes count from 0, bits from the lowest.
use Rattle.std.specs.Prelude.{ℕ, ◌+◌, ◌*◌, ◌/◌, ◌%◌, false, ◌==◌, List, get_or}
use Rattle.std.specs.Int.{bit_at, div_ceil}
use Rattle.vis_map.specs.declared.bits.MapBits.{MapBits}

-- a map page has the bits of so many heap blocks: two for each, in the 8168 bytes after the page header
abbrev pub blocks_per_map_page : ℕ
blocks_per_map_page = 32672

-- the map page that has the bits of a heap block
abbrev pub map_page_of : ℕ → ℕ
map_page_of block = block / blocks_per_map_page

-- how many map pages have the bits of so many heap blocks
abbrev pub map_pages_for : ℕ → ℕ
map_pages_for blocks = div_ceil blocks blocks_per_map_page

-- the byte of the map page that has the bits of a heap block and of three others
abbrev pub map_byte_of : List ℕ → ℕ → ℕ
map_byte_of page block = get_or page (24 + block % blocks_per_map_page / 4) 0

-- the bits of a heap block, on the map page that has them
unfoldable pub bits_of : List ℕ → ℕ → MapBits
bits_of page block = record {
  all_visible = bit_at (map_byte_of page block) (2 * (block % 4)) == 1;
  all_frozen = bit_at (map_byte_of page block) (2 * (block % 4) + 1) == 1;
}

abbrev pub no_bits : MapBits
no_bits = record { all_visible = false; all_frozen = false }
