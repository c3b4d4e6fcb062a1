-- The index of a case, and what its files hold.
use Rattle.std.specs.Prelude.{ℕ, ◌-◌, [], slice_get, unwrap_or}
use Rattle.outside.specs.Outside.{Names}
use Rattle.rel_files.specs.Blocks.{block_of, blocks_of, long_segment_of}
use Rattle.case_file.specs.declared.case.Unique.TheVariants.{No}
use Rattle.case_file.specs.Record.{CaseRecord, IndexRecord}
use Rattle.key_attrs.specs.Columns.{TreeColumns}
use Rattle.rel_files.specs.Refusals.{index_limit}
use Rattle.reports.specs.Lists.{Lists}
use Rattle.bt_pages.specs.Trees.{Tree}
use Rattle.bt_levels.specs.Lists.{index_lists}

-- index n, counted from 1
abbrev pub no_index : IndexRecord
no_index = record { name = []; file = []; keys = []; more = []; unique = No }

abbrev pub index_of : CaseRecord → ℕ → IndexRecord
index_of case n = unwrap_or (slice_get case.indexes (n - 1)) no_index

-- its columns: those of its key, and those that it includes
abbrev pub case_columns : CaseRecord → ℕ → TreeColumns
case_columns case n = record { specs = (index_of case n).keys; more = (index_of case n).more }

-- its columns and its blocks, as these names hold them
abbrev pub tree_of : CaseRecord → Names → ℕ → Tree
tree_of case names n = record {
  number = n;
  specs = (case_columns case n).specs;
  more = (case_columns case n).more;
  blocks = blocks_of names (index_of case n).file case.segment_blocks index_limit;
  block = block_of names (index_of case n).file case.segment_blocks;
}

-- what is found of it
unfoldable pub tree_lists : CaseRecord → Names → ℕ → Lists
tree_lists case names n =
    index_lists (tree_of case names n) (long_segment_of names (index_of case n).file case.segment_blocks index_limit)
