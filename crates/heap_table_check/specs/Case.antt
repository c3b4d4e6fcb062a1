-- The files of a case but for its indexes: its heap with its visibility map, and its TOAST table; their tables, blocks
-- and pages, as the names hold them.
use Rattle.std.specs.Prelude.{ℕ, List, map, Option, None}
use Rattle.std.specs.Option.{option_map}
use Rattle.rel_files.specs.Refusals.{heap_limit, toast_limit}
use Rattle.outside.specs.Outside.{Names}
use Rattle.rel_files.specs.Blocks.{block_of, blocks_of, front_blocks_of, front_long_segment_of, long_segment_of}
use Rattle.case_file.specs.Record.{CaseRecord}
use Rattle.liveness.specs.LogFiles.{LogFiles}
use Rattle.vis_map.specs.Bits.{map_pages_for, no_bits}
use Rattle.vis_map.specs.declared.bits.MapBits.{MapBits}
use Rattle.toast_chunks.specs.Rows.{toast_columns}
use Rattle.heap_page_check.specs.Table.{Table}
use Rattle.heap_page_check.specs.declared.table.TableKind.TheVariants as kind
use Rattle.heap_table_check.specs.Map.{map_bits, map_name}

-- where the logs of a case stand, and the numbers of its cluster
abbrev pub log_files_in : CaseRecord → LogFiles
log_files_in case = record { xact = case.xact; offsets = case.offsets; members = case.members; cluster = case.cluster }

-- a block of a file of a case
abbrev pub case_page : CaseRecord → Names → List ℕ → ℕ → List ℕ
case_page case names file block = block_of names file case.segment_blocks block

-- The heap

-- the oid of its TOAST table
abbrev pub oid_in : Option (List ℕ × ℕ) → Option ℕ
oid_in toast = option_map (λ t. t.1) toast

unfoldable pub table_of : CaseRecord → Names → Table
table_of case names = record {
  kind = kind.Heap;
  columns = map (λ c. c.ctype) case.columns;
  toast = oid_in case.toast;
  names = names;
  logs = log_files_in case;
}

unfoldable pub heap_blocks : CaseRecord → Names → ℕ
heap_blocks case names = blocks_of names case.heap_file case.segment_blocks heap_limit

unfoldable pub heap_long_segment : CaseRecord → Names → Option ℕ
heap_long_segment case names = long_segment_of names case.heap_file case.segment_blocks heap_limit

abbrev pub heap_page : CaseRecord → Names → ℕ → List ℕ
heap_page case names block = case_page case names case.heap_file block

-- Its visibility map: the pages that have bits of the heap's blocks. A map that isn't held has none

unfoldable pub map_blocks : CaseRecord → Names → ℕ
map_blocks case names =
    front_blocks_of names (map_name case.heap_file) case.segment_blocks (map_pages_for (heap_blocks case names))

unfoldable pub map_long_segment : CaseRecord → Names → Option ℕ
map_long_segment case names =
    front_long_segment_of names (map_name case.heap_file) case.segment_blocks (map_pages_for (heap_blocks case names))

abbrev pub map_page : CaseRecord → Names → ℕ → List ℕ
map_page case names block = case_page case names (map_name case.heap_file) block

-- what the map says of a heap block
unfoldable pub case_bits : CaseRecord → Names → ℕ → MapBits
case_bits case names = map_bits names (map_name case.heap_file) case.segment_blocks (map_blocks case names)

-- The TOAST table in a file: a table without a map and without a TOAST table of its own

unfoldable pub toast_table_of : CaseRecord → Names → Table
toast_table_of case names = record {
  kind = kind.Toast;
  columns = toast_columns;
  toast = None;
  names = names;
  logs = log_files_in case;
}

unfoldable pub toast_blocks : CaseRecord → Names → List ℕ → ℕ
toast_blocks case names file = blocks_of names file case.segment_blocks toast_limit

unfoldable pub toast_long_segment : CaseRecord → Names → List ℕ → Option ℕ
toast_long_segment case names file = long_segment_of names file case.segment_blocks toast_limit

-- a table of which no map says anything
abbrev pub unmapped : ℕ → MapBits
unmapped block = no_bits
