-- The files that are built from a seed and a number of rows.
use Rattle.std.specs.Prelude.{◌≡◌, ℕ, List, ◌∷◌, codes}
use Rattle.outside.specs.declared.files.Part.TheVariants.{Segment, Slru}
use Rattle.memory_files.specs.Held.{no_names, with_file}
use Rattle.memory_files.specs.Memory.{sure_state}
use Rattle.outside.specs.Outside.{Names}
use Rattle.case_file.specs.Generated.{generated_case}
use Rattle.rel_build.specs.declared.build.BuiltCase.{BuiltCase}
use Rattle.rel_build.specs.declared.trees.Key.TheVariants.{Id, Group}
use Rattle.page_write.specs.Pages.{zeros}
use Rattle.rel_build.specs.Rows.{pages_for, rows_below, table_file}
use Rattle.rel_build.specs.Trees.{index_file, tree_blocks}

-- the first page of the commit log: of its transactions 3 alone did something, and it committed (two bits, 1, for each
-- transaction)
unfoldable pub commit_log : List ℕ
commit_log = 0x40 ∷ zeros 8191

-- a table, its two indexes and the commit log, and no others
unfoldable pub held_with : (table by_id by_group : List ℕ) → Names
held_with table by_id by_group =
    let one = with_file no_names (codes "t") (Segment 0) table in
    let two = with_file one (codes "i1") (Segment 0) by_id in
    let three = with_file two (codes "i2") (Segment 0) by_group in
    with_file three (codes "xact") (Slru 0) commit_log

-- the files of a table of so many rows
unfoldable pub built_files : (seed count : ℕ) → Names
built_files seed count =
    let rows = rows_below seed count in
    held_with (table_file rows) (index_file Id rows) (index_file Group rows)

-- these are the files and the case that are built from a seed and a number of rows
pub record IsBuilt (seed count : ℕ) (built : BuiltCase) : Type 0 where
  pub files : sure_state built.files ≡ record { held = built_files seed count; reads = 0 }
  pub case : built.case ≡ generated_case
  pub heap_blocks : built.heap_blocks ≡ pages_for 185 count
  pub index_blocks : built.index_blocks ≡ tree_blocks (rows_below seed count)
