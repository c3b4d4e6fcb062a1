-- The visibility map of a heap: its pages, and what it says of the heap's blocks.
use Rattle.std.specs.Prelude.{ℕ, List, ◌++◌, Option, Some, None, nat_lt, if◌then◌else◌, codes}
use Rattle.outside.specs.Adds.{each_below}
use Rattle.outside.specs.Outside.{Names}
use Rattle.page_layout.specs.Page.{page_rule_of}
use Rattle.page_layout.specs.declared.page.PageKind.TheVariants.{Map}
use Rattle.page_layout.specs.declared.rules.Rule.{Rule}
use Rattle.rel_files.specs.Blocks.{block_of}
use Rattle.rel_files.specs.Relation.{base_of, count_of, size_of}
use Rattle.rel_files.specs.declared.relation.Relation.{Relation}
use Rattle.vis_map.specs.Bits.{bits_of, map_page_of, no_bits}
use Rattle.vis_map.specs.declared.bits.MapBits.{MapBits}
use Rattle.reports.specs.Added.{finding_at, report_lists}
use Rattle.reports.specs.Lists.{Lists}
use Rattle.reports.specs.declared.places.Place.TheVariants.{Block}
use Rattle.reports.specs.declared.places.Rel.TheVariants.{Map as map}

-- the base name of the map of a heap of this name
abbrev pub map_name : List ℕ → List ℕ
map_name heap = heap ++ codes "_vm"

-- what a map page says of a heap block: nothing, where it breaks a rule
abbrev pub bits_by : Option Rule → List ℕ → ℕ → MapBits
bits_by None page block = bits_of page block
bits_by (Some rule) page block = no_bits

unfoldable pub page_bits : List ℕ → ℕ → MapBits
page_bits page block = bits_by (page_rule_of Map page) page block

-- what a map of so many pages says of a heap block: nothing, where it has no page for it
unfoldable pub map_bits : Names → List ℕ → ℕ → ℕ → ℕ → MapBits
map_bits names base size count block =
    if nat_lt (map_page_of block) count then page_bits (block_of names base size (map_page_of block)) block else no_bits

-- what an attached map says of a block of its heap
abbrev pub bits_seen : Names → Option Relation → ℕ → MapBits
bits_seen names None block = no_bits
bits_seen names (Some r) block = map_bits names (base_of r) (size_of r) (count_of r) block

unfoldable pub map_page_found : ℕ → List ℕ → Lists
map_page_found block page = finding_at (Block map block) (page_rule_of Map page)

-- what is found of a page of the map
unfoldable pub map_block_found : Names → List ℕ → ℕ → ℕ → Lists
map_block_found names base size block = map_page_found block (block_of names base size block)

-- the first n pages of it
unfoldable pub map_blocks_found : Names → List ℕ → ℕ → ℕ → Lists
map_blocks_found names base size n = each_below report_lists (map_block_found names base size) n
