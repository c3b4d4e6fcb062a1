-- An index in which nothing was found.
use Rattle.std.specs.Prelude.{◌≡◌, ℕ, List}
use Rattle.outside.specs.Outside.{Names}
use Rattle.key_orders.specs.declared.columns.KeySpec.{KeySpec}
use Rattle.key_orders.specs.declared.more.MoreSpec.{MoreSpec}
use Rattle.key_orders.specs.Scans.{order_of}
use Rattle.case_file.specs.Record.{CaseRecord}
use Rattle.rel_files.specs.Blocks.{block_of}
use Rattle.rel_files.specs.Relation.{IsAttached, base_of, count_of, size_of}
use Rattle.laws_levels.specs.Rules.{KeepsLevelRules}
use Rattle.key_attrs.specs.Columns.{TreeColumns}
use Rattle.bt_image.specs.Image.{TreeIndex, index_image}
use Rattle.bt_image.specs.Pages.{KeepsTreeRules}
use Rattle.bt_level_check.specs.Counts.{half_dead_in, right_halves_in}
use Rattle.bt_levels.specs.declared.files.TreeFile.{TreeFile}
use Rattle.bt_levels.specs.declared.sound.SoundTree.{SoundTree}
use Rattle.bt_levels.specs.Files.{BelongsTo, number_of, relation_of}
use Rattle.bt_levels.specs.Index.{case_columns}

-- its file, the columns of its key, and those that it includes
abbrev pub file_of : SoundTree → TreeFile
file_of sound = sound.file

abbrev pub specs_of : SoundTree → List KeySpec
specs_of sound = sound.specs.items

abbrev pub more_of : SoundTree → List MoreSpec
more_of sound = sound.more.items

abbrev pub index_columns : SoundTree → TreeColumns
index_columns sound = record { specs = specs_of sound; more = more_of sound }

-- what it keeps of its levels
abbrev pub fastroot_of : SoundTree → ℕ
fastroot_of sound = sound.shape.fastroot

abbrev pub fastlevel_of : SoundTree → ℕ
fastlevel_of sound = sound.shape.fastlevel

abbrev pub right_halves_of : SoundTree → ℕ
right_halves_of sound = sound.shape.right_halves

abbrev pub half_dead_of : SoundTree → ℕ
half_dead_of sound = sound.shape.half_dead

-- it is index n of a case
pub record IsSoundIndexOf (case : CaseRecord) (n : ℕ) (sound : SoundTree) : Type 0 where
  pub number : number_of (file_of sound) ≡ n
  pub belongs : BelongsTo case (file_of sound)
  pub columns : index_columns sound ≡ case_columns case n

-- its blocks, as these names hold them
abbrev pub block_count : SoundTree → ℕ
block_count sound = count_of (relation_of (file_of sound))

abbrev pub held_block : Names → SoundTree → ℕ → List ℕ
held_block names sound = block_of names (base_of (relation_of (file_of sound))) (size_of (relation_of (file_of sound)))

-- the image of its pages, as a search sees them
abbrev pub image_of : Names → SoundTree → TreeIndex
image_of names sound =
    index_image (index_columns sound).specs (index_columns sound).more (block_count sound) (held_block names sound)

-- the names hold the index: its pages break no rule, nor do its levels; its fast root and the level of that are those
-- of the metapage, and its numbers of right halves and half-dead leaves are those of its levels
pub record HoldsTree (names : Names) (sound : SoundTree) : Type 0 where
  pub attached : IsAttached names (relation_of (file_of sound))
  pub pages : KeepsTreeRules (index_columns sound).specs (index_columns sound).more (block_count sound)
      (held_block names sound)
  pub levels : KeepsLevelRules (order_of (specs_of sound)) (image_of names sound)
  pub fastroot : fastroot_of sound ≡ (image_of names sound).fastroot
  pub fastlevel : fastlevel_of sound ≡ (image_of names sound).fastlevel
  pub right_halves : right_halves_of sound ≡ right_halves_in (image_of names sound)
  pub half_dead : half_dead_of sound ≡ half_dead_in (image_of names sound)
