-- What is told of the rows of an index by its own numbers, and of its case.
use Rattle.std.proofs.Common.{◌≡◌, ℕ, List}
use Rattle.outside.specs.Outside.{Names}
use Rattle.rel_files.specs.Blocks.{block_of}
use Rattle.case_file.specs.Record.{CaseRecord}
use Rattle.reports.specs.Added.{report_lists}
use Rattle.bt_image.specs.Image.{index_entries}
use Rattle.bt_levels.specs.declared.sound.SoundTree.{SoundTree}
use Rattle.bt_levels.specs.Files.{IsFileOf, number_of}
use Rattle.bt_levels.specs.Index.{index_of}
use Rattle.bt_levels.specs.Sound.{IsSoundIndexOf, file_of, held_block}
use Rattle.heap_rows.specs.declared.rows.LiveRow.{LiveRow}
use Rattle.heap_rows.specs.Rows.{rows_of}
use Rattle.join_rules.specs.Entries.{has_alive}
use Rattle.join_rules.specs.Lists.{of_each, row_lists, rows_lists}
use Rattle.join_look_ups.specs.Rows.{owed_for}

module _ (case : CaseRecord) (names : Names) (tree : SoundTree) (index : IsSoundIndexOf case (number_of (file_of tree)) tree) (file : IsFileOf case names (file_of tree)) where
  -- its blocks
  pub blocks-are : (b : ℕ) → held_block names tree b ≡ block_of names (index_of case (number_of (file_of tree))).file case.segment_blocks b
  blocks-are b = λ i. block_of names (index.belongs.named.named i) (index.belongs.named.sized i) b

  -- what its rows give
  pub rows-are : (rows : List LiveRow) → rows ≡ rows_of case names → owed_for names tree rows ≡ rows_lists case names (number_of (file_of tree))
  unfolding owed_for rows_lists
  rows-are rows are = λ i.
      of_each report_lists (row_lists (number_of (file_of tree)) (index.columns i) (has_alive (index_entries (index.columns i).specs (index.columns i).more (file.count i) (λ b. blocks-are b i)))) (are i)
