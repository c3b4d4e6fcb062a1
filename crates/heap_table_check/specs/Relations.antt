-- What is found of a relation: its segments, and then its blocks.
use Rattle.std.specs.Prelude.{ℕ, List, Option, Some, None}
use Rattle.outside.specs.Adds.{each_below}
use Rattle.outside.specs.Outside.{Names}
use Rattle.page_layout.specs.declared.rules.Rule.TheVariants.{S1}
use Rattle.rel_files.specs.Blocks.{block_of}
use Rattle.vis_map.specs.declared.bits.MapBits.{MapBits}
use Rattle.toast_chunks.specs.declared.map.Chunk.{Chunk}
use Rattle.reports.specs.Added.{finding_at, nothing}
use Rattle.reports.specs.Lists.{Lists}
use Rattle.reports.specs.declared.places.Place.TheVariants.{Segment}
use Rattle.reports.specs.declared.places.Rel.{Rel}
use Rattle.heap_page_check.specs.Found.{FoundLists, both_found, found_parts, only_listed}
use Rattle.heap_page_check.specs.Pages.{page_found}
use Rattle.heap_page_check.specs.Table.{Table, rel_of}

-- a segment that is too long
abbrev pub segment_found : Rel → Option ℕ → Lists
segment_found rel (Some segment) = finding_at (Segment rel segment) (Some S1)
segment_found rel None = nothing

-- a block of a table's file, whose full segments have so many blocks, by the chunks of its TOAST table and by what the
-- visibility map says of it
unfoldable pub block_found : Table → List Chunk → (ℕ → MapBits) → Names → List ℕ → ℕ → ℕ → FoundLists
block_found table chunks bits names base size block =
    page_found table chunks (bits block) block (block_of names base size block)

-- the first n blocks of it
unfoldable pub blocks_found : Table → List Chunk → (ℕ → MapBits) → Names → List ℕ → ℕ → ℕ → FoundLists
blocks_found table chunks bits names base size n =
    each_below found_parts (block_found table chunks bits names base size) n

-- a table, of whose file this segment is too long
unfoldable pub table_found : Table → List Chunk → (ℕ → MapBits) → Names → List ℕ → ℕ → ℕ → Option ℕ → FoundLists
table_found table chunks bits names base size n long =
    both_found (only_listed (segment_found (rel_of table.kind) long)) (blocks_found table chunks bits names base size n)
