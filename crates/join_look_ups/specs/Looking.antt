-- Look-ups of entries in an index.
use Rattle.std.specs.Prelude.{ℕ, ◌+◌, ◌*◌, Bool, List, [], ◌∷◌, length}
use Rattle.outside.specs.Outside.{Names}
use Rattle.key_orders.specs.declared.columns.Value.{Value}
use Rattle.key_orders.specs.declared.more.MoreSpec.{MoreSpec}
use Rattle.key_orders.specs.declared.Tid.{Tid}
use Rattle.rel_files.specs.Relation.{count_of}
use Rattle.case_file.specs.Record.{CaseRecord}
use Rattle.heap_table_check.specs.declared.files.SoundHeap.{SoundHeap}
use Rattle.heap_table_check.specs.Files.{heap_in}
use Rattle.heap_rows.specs.Reads.{page_reads}
use Rattle.heap_rows.specs.Rows.{rows_of}
use Rattle.bt_image.specs.Image.{LeafEntry, index_entries}
use Rattle.bt_levels.specs.declared.sound.SoundTree.{SoundTree}
use Rattle.bt_levels.specs.Sound.{block_count, held_block, index_columns, more_of}
use Rattle.bt_search.specs.Cached.{IsCacheOf}
use Rattle.bt_search.specs.Lookups.{way_length}
use Rattle.join_rules.specs.Entries.{has_alive}
use Rattle.join_row_keys.specs.Rows.{columns_in}
use Rattle.join_look_ups.specs.declared.joined.LookUps.{LookUps}

-- the entries of the index that the names hold
abbrev pub entries_of : Names → SoundTree → List LeafEntry
entries_of names tree =
    index_entries (index_columns tree).specs (index_columns tree).more (block_count tree) (held_block names tree)

-- it has an unkilled entry with this key, these included values and this TID
abbrev pub has_entry : Names → SoundTree → (key more : List Value) → Tid → Bool
has_entry names tree = has_alive (entries_of names tree)

-- the most visits that a look-up makes: its way, and where columns are included the entry's page once more
abbrev pub looks_beside : List MoreSpec → ℕ
looks_beside [] = 0
looks_beside (m ∷ more) = 1

abbrev pub look_length : Names → SoundTree → ℕ
look_length names tree = way_length names tree + looks_beside (more_of tree)

-- look-ups go through pages of the index that the names hold
abbrev pub AreOf : Names → SoundTree → LookUps → Type 0
AreOf names tree look_ups = IsCacheOf names tree look_ups.cache

-- the most reads of files to go over the rows of a heap once and look up each in an index of it
unfoldable pub probe_reads : Names → CaseRecord → SoundHeap → SoundTree → ℕ
probe_reads names case heap tree =
    page_reads heap (length (columns_in (index_columns tree))) * count_of (heap_in heap)
    + length (rows_of case names) * look_length names tree
