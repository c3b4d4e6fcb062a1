-- How often files are read where a heap is judged together with its indexes, at most.
use Rattle.std.specs.Prelude.{ℕ, ◌+◌, ◌*◌, List, if◌then◌else◌, length, nat_lt, sum_by}
use Rattle.outside.specs.Outside.{Names}
use Rattle.rel_files.specs.Relation.{count_of}
use Rattle.bt_levels.specs.declared.sound.SoundTree.{SoundTree}
use Rattle.bt_levels.specs.Sound.{block_count}
use Rattle.case_file.specs.Record.{CaseRecord}
use Rattle.heap_table_check.specs.declared.files.SoundHeap.{SoundHeap}
use Rattle.heap_table_check.specs.Files.{heap_in}
use Rattle.heap_rows.specs.Reads.{page_reads}
use Rattle.join_look_ups.specs.Looking.{look_length, probe_reads}
use Rattle.join_look_ups.specs.Rows.{rows_from}
use Rattle.join_row_keys.specs.declared.joined.IndexedTable.{IndexedTable}
use Rattle.join_row_keys.specs.declared.keys.KeyedHeap.{KeyedHeap}
use Rattle.join_unique.specs.Reads.{duplicate_reads}
use Rattle.heap_indexed.specs.Meetings.{columns_of_all}

-- For one index, where rows with so many values are met in so many ranges, which have so many blocks from one on: its
-- blocks twice for each range, and of a range with a row that no entry met each block of the heap once more, and a
-- look-up for each row.
unfoldable pub rounds_reads : Names → CaseRecord → SoundHeap → (columns ranges first blocks : ℕ) → SoundTree → ℕ
rounds_reads names case heap columns ranges first blocks tree =
    block_count tree * 2 * ranges + page_reads heap columns * blocks
    + length (rows_from case names first blocks) * look_length names tree

-- the same for all indexes
abbrev pub all_rounds : Names → CaseRecord → SoundHeap → (columns ranges first blocks : ℕ) → List KeyedHeap → ℕ
all_rounds names case heap columns ranges first blocks indexes =
    sum_by (λ index. rounds_reads names case heap columns ranges first blocks index.at.tree.now) indexes

-- For all indexes, where entries meet rows: each block of the heap once for all of them, and then for each what is said
-- above of a heap of which each block is a range, and what equal keys are looked for in.
abbrev pub meeting_reads : Names → IndexedTable → ℕ
meeting_reads names at =
    let heap = at.heap.now in
    let blocks = count_of (heap_in heap) in
    let columns = length (columns_of_all at.trees.now) in
    page_reads heap columns * blocks
    + sum_by (rounds_reads names at.case.now heap columns (blocks + 1) 0 blocks) at.trees.now
    + sum_by (duplicate_reads names heap) at.trees.now

-- for one index, where each row is looked up: that, the blocks of the index once, and what equal keys are looked for in
abbrev pub looking_reads : Names → CaseRecord → SoundHeap → SoundTree → ℕ
looking_reads names case heap tree =
    probe_reads names case heap tree + block_count tree + duplicate_reads names heap tree

-- for all indexes: the rows of a heap of fewer than 64 blocks are looked up
abbrev pub indexes_reads : Names → IndexedTable → ℕ
indexes_reads names at =
    if nat_lt (count_of (heap_in at.heap.now)) 64
    then sum_by (looking_reads names at.case.now at.heap.now) at.trees.now
    else meeting_reads names at
