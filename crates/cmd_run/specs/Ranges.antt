-- A table and a range of its indexes, of the numbers start + 1, .., stop: `heap` judges none, `index` one, `all` all.
use Rattle.std.specs.Prelude.{ℕ, ◌+◌, ◌-◌, Option}
use Rattle.std.specs.Option.{option_or}
use Rattle.outside.specs.Outside.{Names}
use Rattle.case_file.specs.Record.{CaseRecord}
use Rattle.reports.specs.Added.{each_upto, joined, report_lists}
use Rattle.reports.specs.Lists.{Lists}
use Rattle.rel_files.specs.declared.check_fault.CheckFault.{CheckFault}
use Rattle.heap_table_check.specs.Files.{refusal_of as table_refusal}
use Rattle.heap_table_check.specs.Found.{case_found}
use Rattle.bt_levels.specs.Files.{refusal_of as tree_refusal}
use Rattle.cmd_answers.specs.Cases.{unless_refused}
use Rattle.cmd_answers.specs.Outcome.{Judged}
use Rattle.cmd_run.specs.All.{first_upto}
use Rattle.cmd_run.specs.Numbered.{numbered_found}

-- why the files of the indexes can't be judged: the cause of the first that has one
abbrev pub indexes_refusal : CaseRecord → Names → (start stop : ℕ) → Option CheckFault
indexes_refusal case names start stop = first_upto (λ k. tree_refusal case names (start + k)) (stop - start)

-- what is found of the indexes, in their order
abbrev pub indexes_found : CaseRecord → Names → (start stop : ℕ) → Lists
indexes_found case names start stop = each_upto report_lists (λ k. numbered_found case names (start + k)) (stop - start)

-- the table's cause, or else that of the indexes
abbrev pub range_refusal : CaseRecord → Names → (start stop : ℕ) → Option CheckFault
range_refusal case names start stop = option_or (table_refusal case names) (indexes_refusal case names start stop)

-- what is found of the table, and then of the indexes
abbrev pub range_found : CaseRecord → Names → (start stop : ℕ) → Lists
range_found case names start stop = joined (case_found case names) (indexes_found case names start stop)

-- the report on the table and on the indexes, unless their files are refused
abbrev pub range_judged : Names → CaseRecord → (start stop : ℕ) → Judged
range_judged names case start stop =
    unless_refused (range_refusal case names start stop) case (range_found case names start stop)
