-- The command `gen`: what it says of the table and the two indexes that it builds.
use Rattle.std.specs.Prelude.{ℕ, List, ◌++◌, codes, decimal, nat_lt, if◌then◌else◌, Ok, Err}
use Rattle.page_layout.specs.declared.rules.Rule.{Rule}
use Rattle.case_file.specs.Generated.{generated_case}
use Rattle.reports.specs.declared.places.Place.{Place}
use Rattle.reports.specs.declared.places.Reason.{Reason}
use Rattle.rel_build.specs.Files.{built_files}
use Rattle.rel_build.specs.Rows.{pages_for, rows_below}
use Rattle.rel_build.specs.Trees.{tree_blocks}
use Rattle.cmd_run.specs.All.{BreaksCase, DoubtsCase, IsTrueCase, all_found}
use Rattle.cmd_answers.specs.Outcome.{Judged, Outcome, owed_under, too_large}
use Rattle.cmd_answers.specs.declared.output.Unit.TheVariants.{Rows}

-- the line of an index: its number, its blocks and its entries
abbrev pub index_line : (n blocks entries : ℕ) → List ℕ
index_line n blocks entries =
    codes "index " ++ decimal n ++ codes " blocks " ++ decimal blocks ++ codes " entries " ++ decimal entries
    ++ codes "\n"

-- the lines that count the rows, the heap's blocks, and each index's blocks and entries
abbrev pub counts_text : (rows heap_blocks index_blocks : ℕ) → List ℕ
counts_text rows heap_blocks index_blocks =
    codes "rows " ++ decimal rows ++ codes "\nheap blocks " ++ decimal heap_blocks ++ codes "\n"
    ++ index_line 1 index_blocks rows ++ index_line 2 index_blocks rows

-- those of the table that is built from a seed
abbrev pub counts_of : (seed rows : ℕ) → List ℕ
counts_of seed rows = counts_text rows (pages_for 185 rows) (tree_blocks (rows_below seed rows))

-- the report on it and on its indexes, unless there are to be too many rows
abbrev pub generated_judged : (seed rows : ℕ) → Judged
generated_judged seed rows =
    if nat_lt 20000 rows then Err (too_large (codes "gen") Rows rows 20000)
    else Ok (all_found generated_case (built_files seed rows))

-- the lines and the report, or the refusal
abbrev pub generated_owed : (seed rows : ℕ) → Outcome
generated_owed seed rows = owed_under (counts_of seed rows) (generated_judged seed rows)

-- what is broken in what is built, what of it is in doubt, and what is true of it
abbrev pub BreaksGenerated : (seed rows : ℕ) → Rule → Place → Type 0
BreaksGenerated seed rows = BreaksCase generated_case (built_files seed rows)

abbrev pub DoubtsGenerated : (seed rows : ℕ) → Reason → Place → Type 0
DoubtsGenerated seed rows = DoubtsCase generated_case (built_files seed rows)

abbrev pub IsTrueGenerated : (seed rows : ℕ) → Type 0
IsTrueGenerated seed rows = IsTrueCase generated_case (built_files seed rows)
