-- The indexes of a case judged by themselves, and then beside the heap.
use Rattle.std.specs.Prelude.{◌≡◌, ◌&&◌, ℕ, Bool, true, false, List, [], ◌∷◌, ◌++◌, All, map}
use Rattle.outside.specs.Outside.{Names}
use Rattle.case_file.specs.Record.{CaseRecord}
use Rattle.reports.specs.Added.{joined, nothing}
use Rattle.reports.specs.Lists.{Lists}
use Rattle.bt_levels.specs.Files.{IsFileOf, number_of}
use Rattle.bt_levels.specs.Index.{tree_lists}
use Rattle.bt_levels.specs.Lists.{is_quiet, lists_where}
use Rattle.bt_levels.specs.Sound.{HoldsTree, IsSoundIndexOf, file_of}
use Rattle.bt_levels.specs.declared.files.TreeFile.{TreeFile}
use Rattle.bt_levels.specs.declared.sound.SoundTree.{SoundTree}
use Rattle.join_rules.specs.Lists.{indexed_lists}
use Rattle.cmd_run.specs.declared.together.Alone.{Alone}
use Rattle.cmd_run.specs.declared.together.OwnReport.{OwnReport}

-- nothing is found of the index by itself
abbrev pub is_quiet_tree : CaseRecord → Names → TreeFile → Bool
is_quiet_tree case names file = is_quiet (tree_lists case names (number_of file))

abbrev pub own_report : Lists → Bool → OwnReport
own_report report is_sound = record { report = report; is_sound = is_sound }

-- what comes of judging it by itself
abbrev pub own_of : CaseRecord → Names → TreeFile → OwnReport
own_of case names file = own_report (tree_lists case names (number_of file)) (is_quiet_tree case names file)

-- a number before others, where it is wanted
abbrev pub with_number : Bool → ℕ → List ℕ → List ℕ
with_number true n ns = n ∷ ns
with_number false n ns = ns

-- the numbers of those indexes
abbrev pub quiet_numbers : CaseRecord → Names → List TreeFile → List ℕ
quiet_numbers case names [] = []
quiet_numbers case names (file ∷ files) =
    with_number (is_quiet_tree case names file) (number_of file) (quiet_numbers case names files)

-- the number of a tree
abbrev pub tree_number : SoundTree → ℕ
tree_number tree = number_of (file_of tree)

-- what came of judging these files by themselves
pub record AreAlone (case : CaseRecord) (names : Names) (files : List TreeFile) (alone : Alone) : Type 0 where
  pub own : alone.own.items ≡ map (own_of case names) files
  pub numbers : map tree_number alone.trees.items ≡ quiet_numbers case names files
  pub held : All (λ t. IsFileOf case names (file_of t) × HoldsTree names t) alone.trees.items

-- and whatever the files hold, the trees are of indexes of the case
abbrev pub BelongAlone : CaseRecord → Alone → Type 0
BelongAlone case alone = All (λ t. IsSoundIndexOf case (tree_number t) t) alone.trees.items

-- the reports on indexes beside a heap, where nothing is found of that; else none
abbrev pub joint_lists : CaseRecord → Names → (heap : Bool) → List ℕ → List Lists
joint_lists case names true numbers = map (indexed_lists case names) numbers
joint_lists case names false numbers = []

-- what is found of indexes, where something is found of the heap or not
abbrev pub found_with : CaseRecord → Names → (heap : Bool) → List TreeFile → Lists
found_with case names heap [] = nothing
found_with case names heap (file ∷ files) =
    joined (joined (tree_lists case names (number_of file))
    (lists_where (heap && is_quiet_tree case names file) (indexed_lists case names (number_of file))))
    (found_with case names heap files)

-- of all files those that are not left were judged
pub record WereJudged (case : CaseRecord) (names : Names) (all left : List TreeFile) (alone : Alone) : Type 0 where
  pub done : List TreeFile
  pub is : all ≡ done ++ left
  pub were : AreAlone case names done alone

-- of these files the reports of those that are not left were put into a report
pub record WerePut (case : CaseRecord) (names : Names) (heap : Bool) (all : List TreeFile) (alone : Alone)
    (joint : List Lists) (old new : Lists) : Type 0 where
  pub left : List TreeFile
  pub own : alone.own.items ≡ map (own_of case names) left
  pub beside : joint ≡ joint_lists case names heap (quiet_numbers case names left)
  pub put : joined new (found_with case names heap left) ≡ joined old (found_with case names heap all)
