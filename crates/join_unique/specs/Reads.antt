-- How often files are read for the equal keys of a unique index, at most.
use Rattle.std.specs.Prelude.{◌≡◌, ◌+◌, ◌*◌, ◌≤◌, ℕ, length, [], Option, Some, None}
use Rattle.outside.specs.Outside.{Names}
use Rattle.rel_files.specs.Relation.{count_of}
use Rattle.laws_search.specs.Search.{At, search_start}
use Rattle.key_orders.specs.Scans.{Bounds}
use Rattle.bt_levels.specs.declared.sound.SoundTree.{SoundTree}
use Rattle.bt_levels.specs.Sound.{block_count, image_of, index_columns}
use Rattle.bt_search.specs.declared.spot.Spot.{Spot}
use Rattle.bt_search.specs.Spots.{rest_at, rest_from}
use Rattle.heap_table_check.specs.declared.files.SoundHeap.{SoundHeap}
use Rattle.heap_table_check.specs.Files.{heap_in}
use Rattle.heap_rows.specs.Reads.{most_block_reads, page_reads}
use Rattle.join_row_keys.specs.Rows.{columns_in}
use Rattle.join_unique.specs.Tables.{no_bounds}
use Rattle.join_unique.specs.declared.grouping.Grouping.{Grouping}

-- the unkilled entries that a scan of an index yields, and all of them
abbrev pub yielded : Names → SoundTree → Bounds → ℕ
yielded names tree bounds = length (rest_from names tree bounds (search_start (image_of names tree)))

abbrev pub unkilled : Names → SoundTree → ℕ
unkilled names tree = yielded names tree no_bounds

-- so many entries of a leaf were taken from a spot on, where all that are left are those of the block to which the walk
-- goes on
abbrev pub AreTaken : Names → Grouping → Spot → Option ℕ → ℕ → Type 0
AreTaken names grouping spot (Some next) n =
    n + length (rest_from names grouping.index.at.tree.now grouping.scan.now (At next []))
    ≡ length (rest_at names grouping.index.at.tree.now grouping.scan.now spot)
AreTaken names grouping spot None n = n ≤ length (rest_at names grouping.index.at.tree.now grouping.scan.now spot)

-- for a block of the heap whose rows are met: its page and logs, and the values of its rows in the columns of the index
abbrev pub key_page_reads : SoundHeap → SoundTree → ℕ
key_page_reads heap tree = page_reads heap (length (columns_in (index_columns tree)))

-- for the entries of an index: each of its blocks once, a block of the heap for each entry that begins a group and for
-- each that names another block than the one before, and one more at the end
abbrev pub group_reads : Names → SoundHeap → SoundTree → ℕ
group_reads names heap tree = block_count tree + key_page_reads heap tree * (2 * unkilled names tree + 1)

-- for all: besides these each block of the heap once, for the roots of its rows, and one more
abbrev pub duplicate_reads : Names → SoundHeap → SoundTree → ℕ
duplicate_reads names heap tree = most_block_reads heap * (count_of (heap_in heap) + 1) + group_reads names heap tree
