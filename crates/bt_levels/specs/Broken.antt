-- The rules of an index, each with the place where it is broken; and what can't be judged.
use Rattle.std.specs.Prelude.{◌≡◌, ◌≢◌, ◌⊎◌, All, ℕ, ◌<◌, ◌≤◌, Bool, true, false, Contains, Option, Some, None}
use Rattle.outside.specs.Outside.{Names}
use Rattle.page_layout.specs.Page.{has_bad_places, has_other_version, has_unknown_page_flag, is_new_but_written}
use Rattle.page_layout.specs.declared.page.PageKind.TheVariants.{Meta}
use Rattle.page_layout.specs.declared.rules.Rule.{Rule}
use Rattle.page_layout.specs.declared.rules.Rule.TheVariants.{L1, L2, L3, L4, L5, L6, L7, L8, L9, M1, M2, P1, P2, P3}
use Rattle.page_layout.specs.declared.rules.Rule.TheVariants.{P4, S1}
use Rattle.laws_search.specs.Search.{FindsAll}
use Rattle.laws_levels.specs.Rules.{BreaksLevelRule, KeepsLevelRules}
use Rattle.bt_meta.specs.Pages.{has_bad_root, is_no_metapage, meta_of}
use Rattle.rel_files.specs.Blocks.{long_segment_of}
use Rattle.case_file.specs.Record.{CaseRecord}
use Rattle.rel_files.specs.Refusals.{index_limit}
use Rattle.reports.specs.Lists.{Lists}
use Rattle.reports.specs.declared.places.Finding.{Finding}
use Rattle.reports.specs.declared.places.Place.{Place}
use Rattle.reports.specs.declared.places.Place.TheVariants.{Segment}
use Rattle.reports.specs.declared.places.Reason.{Reason}
use Rattle.reports.specs.declared.places.Reason.TheVariants.{U4}
use Rattle.reports.specs.declared.places.Rel.TheVariants.{Index}
use Rattle.bt_pages.specs.Trees.{Tree}
use Rattle.bt_pages.specs.Broken.{AreEmpty, BreaksBlock, DoubtsBlock, IsDoubtedAt, IsFoundAt}
use Rattle.bt_pages.specs.Found.{block_place}
use Rattle.bt_level_check.specs.Trees.{KeepsPages, image_of, order_in}
use Rattle.bt_levels.specs.Index.{index_of, tree_lists, tree_of}
use Rattle.bt_levels.specs.Lists.{first_rule, is_first_quiet}

-- a block beside the first, which is judged where nothing is found of that
pub record IsOther (tree : Tree) (b : ℕ) : Type 0 where
  pub first : 1 ≤ b
  pub inside : b < tree.blocks
  pub quiet : is_first_quiet tree ≡ true

-- what the pages of an index may break, whose segment `long` is too long
pub data BreaksPages (tree : Tree) (long : Option ℕ) : Rule → Place → Type 0 where
  long_segment : (k : ℕ) → long ≡ Some k → BreaksPages tree long S1 (Segment (Index tree.number) k)
  no_blocks : tree.blocks ≡ 0 → BreaksPages tree long M1 (block_place tree 0)
  other_layout : 0 < tree.blocks → has_other_version (tree.block 0) ≡ true
      → BreaksPages tree long P1 (block_place tree 0)
  unknown_flag : 0 < tree.blocks → has_unknown_page_flag (tree.block 0) ≡ true
      → BreaksPages tree long P2 (block_place tree 0)
  bad_places : 0 < tree.blocks → has_bad_places Meta (tree.block 0) ≡ true
      → BreaksPages tree long P3 (block_place tree 0)
  stray_byte : 0 < tree.blocks → is_new_but_written (tree.block 0) ≡ true
      → BreaksPages tree long P4 (block_place tree 0)
  no_metapage : 0 < tree.blocks → is_no_metapage (tree.block 0) ≡ true → BreaksPages tree long M1 (block_place tree 0)
  bad_root : 0 < tree.blocks → (meta_of (tree.block 0)).version ≡ 4
      → has_bad_root tree.blocks (meta_of (tree.block 0)) ≡ true → BreaksPages tree long M2 (block_place tree 0)
  in_block : (b : ℕ) (rule : Rule) (place : Place) → IsOther tree b → BreaksBlock tree b rule place
      → BreaksPages tree long rule place

-- what of it can't be judged: all of it where its version isn't 4
pub data DoubtsTree (tree : Tree) : Reason → Place → Type 0 where
  old_version : first_rule tree.blocks (tree.block 0) ≡ None → (meta_of (tree.block 0)).version ≢ 4
      → DoubtsTree tree U4 (block_place tree 0)
  of_block : (b : ℕ) (reason : Reason) (place : Place) → IsOther tree b → DoubtsBlock tree b reason place
      → DoubtsTree tree reason place

-- nothing is broken there, and nothing is in doubt
pub record KeepsPageRules (tree : Tree) (long : Option ℕ) : Type 0 where
  pub unbroken : (rule : Rule) (place : Place) → ¬ BreaksPages tree long rule place
  pub certain : (reason : Reason) (place : Place) → ¬ DoubtsTree tree reason place

-- what an index may break: a rule on its pages, or, where they keep theirs, one on its levels
pub data BreaksTree (tree : Tree) (long : Option ℕ) : Rule → Place → Type 0 where
  in_pages : (rule : Rule) (place : Place) → BreaksPages tree long rule place → BreaksTree tree long rule place
  on_levels : (rule : Rule) (b : ℕ) → KeepsPageRules tree long → BreaksLevelRule (order_in tree) (image_of tree) rule b
      → BreaksTree tree long rule (block_place tree b)

-- the rules on levels. Of these only the first that is broken is named: where a level is broken, what is below it says
-- little.
abbrev pub is_level_rule : Rule → Bool
is_level_rule L1 = true
is_level_rule L2 = true
is_level_rule L3 = true
is_level_rule L4 = true
is_level_rule L5 = true
is_level_rule L6 = true
is_level_rule L7 = true
is_level_rule L8 = true
is_level_rule L9 = true
is_level_rule _ = false

-- the rule is one on levels, and one of these is found
pub record IsBehind (lists : Lists) (rule : Rule) : Type 0 where
  pub own : is_level_rule rule ≡ true
  pub first : Finding
  pub level : is_level_rule first.rule ≡ true
  pub found : Contains lists.findings first

-- the same of index n of a case
abbrev pub Breaks : CaseRecord → Names → ℕ → Rule → Place → Type 0
Breaks case names n =
    BreaksTree (tree_of case names n) (long_segment_of names (index_of case n).file case.segment_blocks index_limit)

abbrev pub Doubts : CaseRecord → Names → ℕ → Reason → Place → Type 0
Doubts case names n = DoubtsTree (tree_of case names n)

-- the index breaks no rule, and each search of it finds what it should
pub record IsTrueTree (tree : Tree) : Type 0 where
  pub pages : KeepsPages tree
  pub levels : KeepsLevelRules (order_in tree) (image_of tree)
  pub searches : FindsAll (order_in tree) (image_of tree)

-- what the lists of index n of a case say of it
pub record IsJudged (case : CaseRecord) (names : Names) (n : ℕ) : Type 0 where
  -- what is found is broken, and what can't be judged is in doubt
  pub sound : All (λ f. Breaks case names n f.rule f.place) (tree_lists case names n).findings
  pub doubts : All (λ u. Doubts case names n u.reason u.place) (tree_lists case names n).unjudged
  -- what is broken or in doubt is found; of rules on levels, the first
  pub listed : (rule : Rule) (place : Place) → Breaks case names n rule place
      → IsFoundAt (tree_lists case names n) place ⊎ IsBehind (tree_lists case names n) rule
  pub doubted : (reason : Reason) (place : Place) → Doubts case names n reason place
      → IsDoubtedAt (tree_lists case names n) place
  -- where nothing is listed
  pub kept : AreEmpty (tree_lists case names n) → IsTrueTree (tree_of case names n)
