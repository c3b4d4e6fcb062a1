-- The file of a table that the code judges: what is at hand of it, and what is found of it.
use Rattle.std.specs.Prelude.{ℕ, List}
use Rattle.std.specs.Option.{option_copied}
use Rattle.outside.specs.Outside.{Names}
use Rattle.rel_files.specs.Ahead.{IsAheadOf}
use Rattle.rel_files.specs.Blocks.{block_of}
use Rattle.rel_files.specs.declared.ahead.Ahead.{Ahead}
use Rattle.rel_files.specs.Relation.{IsAttached, base_of, count_of, long_of, size_of}
use Rattle.rel_files.specs.declared.relation.Relation.{Relation}
use Rattle.heap_page_check.specs.Found.{FoundLists}
use Rattle.heap_page_check.specs.Table.{chunks_seen, table_seen}
use Rattle.heap_page_check.specs.declared.table.TableRules.{TableRules}
use Rattle.heap_table_check.specs.Known.{TellsOfBlocks}
use Rattle.heap_table_check.specs.Map.{bits_seen}
use Rattle.heap_table_check.specs.MapPage.{IsMapAttached, IsOptionalMapInHand}
use Rattle.heap_table_check.specs.Relations.{block_found, blocks_found, table_found}
use Rattle.heap_table_check.specs.declared.known.KnownBlocks.{KnownBlocks}
use Rattle.heap_table_check.specs.declared.map.MapPage.{MapPage}
use Rattle.heap_table_check.specs.declared.relations.TableFile.{TableFile}

-- the table's file is attached, and its map where it has one; and what is in hand are pages of these
pub record AreAtHand (names : Names) (file : TableFile) (ahead : Ahead) (hand : MapPage) : Type 0 where
  pub relation : IsAttached names file.relation.now
  pub map : IsMapAttached names (option_copied file.map)
  pub pages : IsAheadOf names file.relation.now ahead
  pub page : IsOptionalMapInHand names (option_copied file.map) hand

-- its pages
abbrev pub pages_in : Names → Relation → ℕ → List ℕ
pages_in names relation block = block_of names (base_of relation) (size_of relation) block

-- what is known of its blocks 0 to n - 1
abbrev pub TellsOfFile : Names → TableRules → TableFile → ℕ → KnownBlocks → Type 0
TellsOfFile names table file n known =
    TellsOfBlocks (table_seen names table) (pages_in names file.relation.now) n known

abbrev pub found_of_block : Names → TableRules → TableFile → ℕ → FoundLists
found_of_block names table file block =
    block_found (table_seen names table) (chunks_seen table.toast) (bits_seen names (option_copied file.map)) names
    (base_of file.relation.now) (size_of file.relation.now) block

abbrev pub found_of_blocks : Names → TableRules → TableFile → FoundLists
found_of_blocks names table file =
    blocks_found (table_seen names table) (chunks_seen table.toast) (bits_seen names (option_copied file.map)) names
    (base_of file.relation.now) (size_of file.relation.now) (count_of file.relation.now)

abbrev pub found_of_table : Names → TableRules → TableFile → FoundLists
found_of_table names table file =
    table_found (table_seen names table) (chunks_seen table.toast) (bits_seen names (option_copied file.map)) names
    (base_of file.relation.now) (size_of file.relation.now) (count_of file.relation.now) (long_of file.relation.now)
