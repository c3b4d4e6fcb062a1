-- A case's table that was judged, and the files of its indexes that are judged next.
use Rattle.std.specs.Prelude.{◌≡◌, ◌+◌, ◌↔◌, ℕ, List, [], ◌∷◌, All, IfSome, IsSome, map, Option}
use Rattle.std.specs.Option.{option_copied}
use Rattle.outside.specs.Adds.{one_list}
use Rattle.outside.specs.Outside.{Names}
use Rattle.case_file.specs.Record.{CaseRecord}
use Rattle.reports.specs.Added.{each_upto, joined, nothing}
use Rattle.reports.specs.Lists.{Lists}
use Rattle.heap_table_check.specs.Files.{BelongTo, IsSoundHeapOf, files_of}
use Rattle.heap_table_check.specs.Found.{IsQuiet}
use Rattle.heap_table_check.specs.declared.files.SoundHeap.{SoundHeap}
use Rattle.bt_pages.specs.Broken.{AreEmpty}
use Rattle.bt_levels.specs.Files.{BelongsTo, IsFileOf, number_of}
use Rattle.bt_levels.specs.Index.{tree_lists}
use Rattle.bt_levels.specs.Sound.{HoldsTree, file_of}
use Rattle.bt_levels.specs.declared.files.TreeFile.{TreeFile}
use Rattle.bt_levels.specs.declared.sound.SoundTree.{SoundTree}
use Rattle.cmd_run.specs.Numbered.{numbered_found}
use Rattle.cmd_run.specs.declared.together.JudgedTable.{JudgedTable}

-- The table

-- what came of judging a case's heap in these files: a sound one, exactly where nothing is found of it
pub record IsHeapOf (case : CaseRecord) (names : Names) (heap : Option SoundHeap) : Type 0 where
  pub quiet : IsSome heap ↔ IsQuiet case names
  pub sound : IfSome heap (IsSoundHeapOf case names)

-- and whatever the files hold, it is the case's
abbrev pub IsHeapIn : CaseRecord → Option SoundHeap → Type 0
IsHeapIn case heap = IfSome heap (λ sound. BelongTo case (files_of sound))

-- the case of a judged table, and its heap
abbrev pub case_seen : JudgedTable → CaseRecord
case_seen table = table.case.now

abbrev pub heap_seen : JudgedTable → Option SoundHeap
heap_seen table = option_copied table.heap

-- The indexes

-- what came of judging index n by itself in these files: a sound tree, exactly where nothing is found of it
pub record IsTreeOf (case : CaseRecord) (names : Names) (n : ℕ) (tree : Option SoundTree) : Type 0 where
  pub quiet : IsSome tree ↔ AreEmpty (tree_lists case names n)
  pub file : IfSome tree (λ sound. IsFileOf case names (file_of sound))
  pub held : IfSome tree (HoldsTree names)

-- the numbers start + 1, .., start + n
abbrev pub numbers_behind : (start n : ℕ) → List ℕ
numbers_behind start n = each_upto one_list (λ k. (start + k) ∷ []) n

-- these are the files of the indexes of a case that have these numbers, whatever they hold
pub record AreTreesBehind (case : CaseRecord) (start n : ℕ) (trees : List TreeFile) : Type 0 where
  pub numbers : map number_of trees ≡ numbers_behind start n
  pub belong : All (BelongsTo case) trees

-- what is found of indexes, in the order of their files
abbrev pub trees_found : CaseRecord → Names → List TreeFile → Lists
trees_found case names [] = nothing
trees_found case names (tree ∷ trees) =
    joined (numbered_found case names (number_of tree)) (trees_found case names trees)
