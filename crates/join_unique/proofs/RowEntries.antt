-- The entry of a row, where each row has one.
use Rattle.std.proofs.Common.{◌≡◌, ◌∙◌, ℕ, List, sym, subst}
use Rattle.std.specs.Prelude.{Contains, Some}
use Rattle.outside.specs.Outside.{Names}
use Rattle.rel_files.specs.Blocks.{block_of}
use Rattle.key_orders.specs.declared.columns.Value.{Value}
use Rattle.case_file.specs.Record.{CaseRecord}
use Rattle.bt_image.specs.Image.{index_image}
use Rattle.bt_level_check.specs.Trees.{image_of as image_in}
use Rattle.bt_levels.specs.declared.sound.SoundTree.{SoundTree}
use Rattle.bt_levels.specs.Files.{number_of}
use Rattle.bt_levels.specs.Index.{index_of, tree_of}
use Rattle.bt_levels.specs.Sound.{file_of, held_block, image_of}
use Rattle.bt_steps.specs.Sought.{HasAlive as IsSearched}
use Rattle.heap_table_check.specs.declared.files.SoundHeap.{SoundHeap}
use Rattle.heap_rows.specs.Rows.{rows_of}
use Rattle.heap_rows.specs.declared.rows.LiveRow.{LiveRow}
use Rattle.join_rules.specs.Broken.{AreJoined}
use Rattle.join_rules.specs.Rows.{key_of}
use Rattle.join_rules.proofs.Alive.{searched}
use Rattle.join_row_keys.specs.Joined.{BelongTogether, HoldTogether}

module _ (names : Names) (case : CaseRecord) (heap : SoundHeap) (tree : SoundTree) (belong : BelongTogether case heap tree) (hold : HoldTogether names case heap tree) (joined : AreJoined case names (number_of (file_of tree))) where
  abbrev n : ℕ
  n = number_of (file_of tree)

  blocks-are : (b : ℕ) → held_block names tree b ≡ block_of names (index_of case n).file case.segment_blocks b
  blocks-are b = λ i. block_of names (belong.index.belongs.named.named i) (belong.index.belongs.named.sized i) b

  image-is : image_in (tree_of case names n) ≡ image_of names tree
  image-is = sym (λ i. index_image (belong.index.columns i).specs (belong.index.columns i).more (hold.file.count i) (λ b. blocks-are b i))

  some-is : (a b : List Value) → Some a ≡ Some b → a ≡ b
  some-is a b e = cc

  -- a row with this key has an unkilled entry with it
  pub row-entry : (row : LiveRow) (key : List Value) → Contains (rows_of case names) row → key_of case n row ≡ Some key → IsSearched (image_of names tree) key row.root
  row-entry row key among is =
      let own = joined.rows row among in
      let same : own.key ≡ key = some-is own.key key (sym own.values ∙ is) in
      subst (λ (k : List Value). IsSearched (image_of names tree) k row.root) same
      (subst (λ x. IsSearched x own.key row.root) image-is (searched (tree_of case names n) own.key own.more row.root own.entry))
