-- What is said of one index of a case, by its number from 1: what is found of it by itself and beside the heap, and
-- which rules are its own.
use Rattle.std.specs.Prelude.{◌≡◌, ◌≤◌, ◌&&◌, ℕ, Bool, true, Contains, length}
use Rattle.outside.specs.Outside.{Names}
use Rattle.page_layout.specs.declared.rules.Rule.{Rule}
use Rattle.case_file.specs.Record.{CaseRecord}
use Rattle.reports.specs.Added.{joined}
use Rattle.reports.specs.Lists.{Lists}
use Rattle.reports.specs.declared.places.Finding.{Finding}
use Rattle.reports.specs.declared.places.Place.{Place}
use Rattle.reports.specs.declared.places.Place.TheVariants.{Block, Column, Entry, Item, Segment, Tuple}
use Rattle.reports.specs.declared.places.Reason.{Reason}
use Rattle.reports.specs.declared.places.Rel.{Rel}
use Rattle.reports.specs.declared.places.Rel.TheVariants.{Heap, Index}
use Rattle.heap_table_check.specs.Broken.{Breaks as BreaksTable, Doubts as DoubtsTable}
use Rattle.heap_table_check.specs.Found.{case_found}
use Rattle.bt_levels.specs.Broken.{Breaks as BreaksTree, Doubts as DoubtsTree, is_level_rule}
use Rattle.bt_levels.specs.Index.{tree_lists}
use Rattle.bt_levels.specs.Lists.{is_quiet, lists_where}
use Rattle.join_rules.specs.Broken.{Breaks as BreaksJoin, Doubts as DoubtsJoin}
use Rattle.join_rules.specs.Lists.{indexed_lists}

-- it is the number of an index of the case
pub record IsNumber (case : CaseRecord) (n : ℕ) : Type 0 where
  pub first : 1 ≤ n
  pub last : n ≤ length case.indexes

-- What is found

-- whether nothing is found of the table, nor of the index by itself
abbrev pub are_quiet : CaseRecord → Names → ℕ → Bool
are_quiet case names n = is_quiet (case_found case names) && is_quiet (tree_lists case names n)

-- of the two together, where nothing is found of either
unfoldable pub join_found : CaseRecord → Names → ℕ → Lists
join_found case names n = lists_where (are_quiet case names n) (indexed_lists case names n)

-- of the index by itself, and then of the two together
abbrev pub numbered_found : CaseRecord → Names → ℕ → Lists
numbered_found case names n = joined (tree_lists case names n) (join_found case names n)

-- The rules

-- the table breaks no rule, and all of it can be judged
pub record KeepsTable (case : CaseRecord) (names : Names) : Type 0 where
  pub unbroken : (rule : Rule) (place : Place) → ¬ BreaksTable case names rule place
  pub certain : (reason : Reason) (place : Place) → ¬ DoubtsTable case names reason place

-- so it is with the index by itself
pub record KeepsTree (case : CaseRecord) (names : Names) (n : ℕ) : Type 0 where
  pub unbroken : (rule : Rule) (place : Place) → ¬ BreaksTree case names n rule place
  pub certain : (reason : Reason) (place : Place) → ¬ DoubtsTree case names n reason place

-- what the index may break: a rule of its own, or, where it and the table keep theirs, one that joins the two
pub data BreaksNumbered (case : CaseRecord) (names : Names) (n : ℕ) (rule : Rule) (place : Place) : Type 0 where
  in_tree : BreaksTree case names n rule place → BreaksNumbered case names n rule place
  beside_heap : KeepsTable case names → KeepsTree case names n → BreaksJoin case names n rule place
      → BreaksNumbered case names n rule place

-- and what of it can't be judged
pub data DoubtsNumbered (case : CaseRecord) (names : Names) (n : ℕ) (reason : Reason) (place : Place) : Type 0 where
  in_tree : DoubtsTree case names n reason place → DoubtsNumbered case names n reason place
  beside_heap : KeepsTable case names → KeepsTree case names n → DoubtsJoin case names n reason place
      → DoubtsNumbered case names n reason place

-- Rules that a report may pass over

-- the file that a place is in
abbrev pub file_at : Place → Rel
file_at (Segment rel segment) = rel
file_at (Block rel block) = rel
file_at (Item rel block item) = rel
file_at (Column block item column) = Heap
file_at (Tuple n tid) = Index n
file_at (Entry n block item tid) = Index n

-- the rule is one on levels, and one of these is found of the same index
pub record IsBehind (lists : Lists) (rule : Rule) (place : Place) : Type 0 where
  pub own : is_level_rule rule ≡ true
  pub first : Finding
  pub level : is_level_rule first.rule ≡ true
  pub found : Contains lists.findings first
  pub same : file_at first.place ≡ file_at place
