-- A heap and an index of it, in which nothing was found.
use Rattle.outside.specs.Outside.{Names}
use Rattle.case_file.specs.Record.{CaseRecord}
use Rattle.heap_table_check.specs.declared.files.SoundHeap.{SoundHeap}
use Rattle.heap_table_check.specs.Files.{BelongTo, IsSoundHeapOf, files_of}
use Rattle.heap_table_check.specs.Found.{IsQuiet}
use Rattle.bt_levels.specs.declared.sound.SoundTree.{SoundTree}
use Rattle.bt_levels.specs.Files.{IsFileOf, number_of}
use Rattle.bt_levels.specs.Sound.{HoldsTree, IsSoundIndexOf, file_of}

-- both are of this case, whatever its names hold
pub record BelongTogether (case : CaseRecord) (table : SoundHeap) (sound : SoundTree) : Type 0 where
  pub heap : BelongTo case (files_of table)
  pub index : IsSoundIndexOf case (number_of (file_of sound)) sound

-- the names hold both, and nothing is found of either
pub record HoldTogether (names : Names) (case : CaseRecord) (table : SoundHeap) (sound : SoundTree) : Type 0 where
  pub heap : IsSoundHeapOf case names table
  pub quiet : IsQuiet case names
  pub file : IsFileOf case names (file_of sound)
  pub tree : HoldsTree names sound
