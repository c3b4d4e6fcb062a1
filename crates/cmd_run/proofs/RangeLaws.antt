-- A table and a range of its indexes: none of them, one, or all.
use Rattle.std.proofs.Common.{◌≡◌, ◌≤◌, ◌+◌, ◌-◌, ◌∙◌, ℕ, List, refl, ap, arith, length}
use Rattle.std.specs.Prelude.{None, Option, Some}
use Rattle.std.specs.Option.{option_or}
use Rattle.outside.specs.Outside.{Names}
use Rattle.case_file.specs.Record.{CaseRecord}
use Rattle.rel_files.specs.declared.check_fault.CheckFault.{CheckFault}
use Rattle.reports.specs.Added.{each_upto, joined, nothing, report_lists}
use Rattle.reports.specs.Lists.{Lists}
use Rattle.heap_table_check.specs.Files.{refusal_of as table_refusal}
use Rattle.heap_table_check.specs.Found.{case_found}
use Rattle.bt_levels.specs.Files.{refusal_of as tree_refusal}
use Rattle.bt_levels.specs.declared.files.TreeFile.{TreeFile}
use Rattle.cmd_answers.specs.Cases.{unless_refused}
use Rattle.cmd_run.specs.All.{first_upto, whole_judged}
use Rattle.cmd_run.specs.Heap.{case_judged}
use Rattle.cmd_run.specs.Index.{numbered_judged}
use Rattle.cmd_run.specs.Numbered.{numbered_found}
use Rattle.cmd_run.specs.Ranges.{range_found, range_judged}
use Rattle.cmd_run.specs.Tables.{AreTreesBehind, trees_found}
use Rattle.cmd_run.proofs.TreesLaws.{trees_are_indexes}

or_none : {X : Type 0} (o : Option X) → option_or o None ≡ o
or_none None = refl
or_none (Some x) = refl

module _ (names : Names) (case : CaseRecord) where
  -- none of its indexes: what `heap` judges
  pub of_none : range_judged names case 0 0 ≡ case_judged names case
  unfolding each_upto first_upto
  of_none = λ i. unless_refused (or_none (table_refusal case names) i) case (report_lists.with_none (case_found case names) i)

  -- one: what `index` judges
  pub of_one : (n : ℕ) → 1 ≤ n → range_judged names case (n - 1) n ≡ numbered_judged names case (Some n)
  unfolding each_upto first_upto
  of_one n least =
      let one : n - (n - 1) ≡ 1 = omega (arith, least) in
      let number : n - 1 + 1 ≡ n = omega (arith, least) in
      ap (λ (count : ℕ). unless_refused (option_or (table_refusal case names) (first_upto (λ k. tree_refusal case names (n - 1 + k)) count)) case
      (joined (case_found case names) (each_upto report_lists (λ k. numbered_found case names (n - 1 + k)) count))) one
      ∙ ap (λ (m : ℕ). unless_refused (option_or (table_refusal case names) (tree_refusal case names m)) case (joined (case_found case names) (numbered_found case names m))) number

  -- all: what `all` judges
  pub of_all : range_judged names case 0 (length case.indexes) ≡ whole_judged names case
  of_all = λ i.
      unless_refused (option_or (table_refusal case names) (first_upto (λ k. tree_refusal case names (none_before k i)) (all i))) case
      (joined (case_found case names) (each_upto report_lists (λ k. numbered_found case names (none_before k i)) (all i)))
    where
      none_before : (k : ℕ) → 0 + k ≡ k
      none_before k = omega arith

      all : length case.indexes - 0 ≡ length case.indexes
      all = omega arith

-- what is found of a table, and then of the files of a range of indexes
pub range_of : (case : CaseRecord) (names : Names) (start stop : ℕ) (trees : List TreeFile) (report middle now : Lists) → AreTreesBehind case start (stop - start) trees → report ≡ nothing
    → middle ≡ joined report (case_found case names) → now ≡ joined middle (trees_found case names trees) → now ≡ range_found case names start stop
range_of case names start stop trees report middle now are none table indexes =
    indexes ∙ ap (joined middle) (trees_are_indexes case names start (stop - start) trees are)
    ∙ ap (λ (l : Lists). joined l (each_upto report_lists (λ k. numbered_found case names (start + k)) (stop - start)))
    (table ∙ ap (λ (l : Lists). joined l (case_found case names)) none)
