-- The command `scan`: what it prints of an index, and which entries these are.
use Rattle.std.specs.Prelude.{ℕ, ◌++◌, ◌&&◌, Bool, if◌then◌else◌, length, List, codes, decimal, Option, Some, None}
use Rattle.std.specs.Prelude.{Ok, Err}
use Rattle.outside.specs.Outside.{Names}
use Rattle.laws_search.specs.Keys.{Entry}
use Rattle.key_orders.specs.Keys.{fits_columns}
use Rattle.key_orders.specs.Scans.{Bounds, order_of, scan_of}
use Rattle.key_orders.specs.declared.columns.KeySpec.{KeySpec}
use Rattle.key_orders.specs.declared.columns.Value.{Value}
use Rattle.key_orders.specs.declared.Tid.{Tid}
use Rattle.case_file.specs.Record.{CaseRecord, index_named}
use Rattle.rel_files.specs.declared.check_fault.CheckFault.{CheckFault}
use Rattle.bt_levels.specs.Files.{refusal_of}
use Rattle.bt_levels.specs.Index.{index_of, tree_lists}
use Rattle.bt_steps.specs.Pages.{is_killed}
use Rattle.bt_scan_lines.specs.Lines.{in_direction, lines_of}
use Rattle.bt_scan_lines.specs.Wanted.{wanted_entries}
use Rattle.key_orders.specs.declared.scans.ScanDirection.{ScanDirection}
use Rattle.cmd_answers.specs.Answers.{answer_code}
use Rattle.cmd_answers.specs.Cases.{CaseRead, case_in, files_refused}
use Rattle.cmd_run.specs.Headline.{pages_of}
use Rattle.cmd_run.specs.Index.{unknown_index}
use Rattle.cmd_answers.specs.Outcome.{Outcome, bad_bound, report_or}
use Rattle.cmd_answers.specs.declared.status.Answer.TheVariants.{Clean}

-- the columns of the key of index n
abbrev pub keys_of : CaseRecord → ℕ → List KeySpec
keys_of case n = (index_of case n).keys

-- the bounds have no more values than the key has columns, and these fit them
abbrev pub are_fitting : List KeySpec → Bounds → Bool
are_fitting keys bounds = fits_columns keys bounds.low.values && fits_columns keys bounds.high.values

-- the matching unkilled entries of the leaves of index n, linked or not, in order
abbrev pub wanted_in : CaseRecord → Names → ℕ → Bounds → List (Entry Value Tid)
wanted_in case names n bounds =
    wanted_entries (order_of (keys_of case n)) is_killed (pages_of case names n) (scan_of (keys_of case n) bounds)

-- entries that are shown: a line each, and how many they are
abbrev pub lines_shown : (lines : List ℕ) → (count : ℕ) → Outcome
lines_shown lines count = record {
  bytes = lines ++ codes "entries " ++ decimal count ++ codes "\n";
  code = answer_code Clean;
}

abbrev pub entries_shown : List (Entry Value Tid) → Outcome
entries_shown es = lines_shown (lines_of es) (length es)

-- the entries of an index of which nothing is found, else the report on it
unfoldable pub tree_scanned : CaseRecord → Names → ℕ → Bounds → ScanDirection → Outcome
tree_scanned case names n bounds direction =
    report_or (tree_lists case names n) (entries_shown (in_direction direction (wanted_in case names n bounds)))

-- unless the index's file is refused
abbrev pub file_scanned : Option CheckFault → CaseRecord → Outcome → Outcome
file_scanned None case owed = owed
file_scanned (Some fault) case owed = files_refused case fault

-- unless the bounds don't fit
abbrev pub bounded_scanned : CaseRecord → Names → ℕ → Bounds → ScanDirection → Outcome
bounded_scanned case names n bounds direction =
    if are_fitting (keys_of case n) bounds
    then file_scanned (refusal_of case names n) case (tree_scanned case names n bounds direction)
    else bad_bound

-- unless the case has no such index
abbrev pub numbered_scanned : CaseRecord → Names → Option ℕ → Bounds → ScanDirection → Outcome
numbered_scanned case names None bounds direction = unknown_index
numbered_scanned case names (Some n) bounds direction = bounded_scanned case names n bounds direction

-- unless the file means no case
abbrev pub case_scanned : CaseRead → Names → (name : List ℕ) → Bounds → ScanDirection → Outcome
case_scanned (Err refusal) names name bounds direction = refusal
case_scanned (Ok case) names name bounds direction =
    numbered_scanned case names (index_named case.indexes name) bounds direction

abbrev pub scan_outcome : (file name : List ℕ) → Bounds → ScanDirection → Names → Outcome
scan_outcome file name bounds direction names = case_scanned (case_in file names) names name bounds direction
