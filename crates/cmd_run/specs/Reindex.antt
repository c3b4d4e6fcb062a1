-- The command `reindex`: the file of an index that it makes of the live rows of a case.
use Rattle.std.specs.Prelude.{◌≡◌, ℕ, if◌then◌else◌, nat_lt, List, Option, Some, None, Ok, Err}
use Rattle.outside.specs.Outside.{Names}
use Rattle.key_orders.specs.declared.Tid.{Tid}
use Rattle.case_file.specs.Record.{CaseRecord, index_named}
use Rattle.bt_levels.specs.Index.{index_of}
use Rattle.bt_build.specs.Listed.{Listed}
use Rattle.bt_build.specs.Outcome.{MayBeIndexed, index_bytes, large_tid, tree_for}
use Rattle.join_row_entries.specs.Entries.{doubts_of, rows_listed}
use Rattle.cmd_line.specs.Words.{Form, Reindex}
use Rattle.cmd_answers.specs.Answers.{answer_code}
use Rattle.cmd_answers.specs.Cases.{CaseRead, case_in}
use Rattle.cmd_answers.specs.Outcome.{Outcome, judged_or, key_too_large, report_or, too_large}
use Rattle.cmd_answers.specs.declared.output.Unit.TheVariants.{Blocks}
use Rattle.cmd_answers.specs.declared.status.Answer.TheVariants.{Clean}
use Rattle.cmd_run.specs.Heap.{case_judged}
use Rattle.cmd_run.specs.Index.{unknown_index}

-- the bytes of the index of these entries
abbrev pub index_written : Listed → Outcome
index_written l = record { bytes = index_bytes l; code = answer_code Clean }

-- unless it would have more than 65536 blocks, or a key is too large; the file is the index's
abbrev pub made_unless : (large : Option Tid) → Listed → (file : List ℕ) → Outcome
made_unless (Some tid) l file = key_too_large tid
made_unless None l file =
    if nat_lt 65536 (tree_for l).blocks then too_large file Blocks (tree_for l).blocks 65536 else index_written l

unfoldable pub index_made : Listed → (file : List ℕ) → Outcome
index_made l file = made_unless (large_tid l) l file

-- index n of the live rows of a case, unless a value of one in the index's columns can't be read
unfoldable pub index_shown : Names → CaseRecord → ℕ → Outcome
index_shown names case n =
    report_or (doubts_of case names n) (index_made (rows_listed case names n) (index_of case n).file)

-- the same of a case that `heap` judges first, where it has such an index
abbrev pub numbered_reindexed : Names → CaseRecord → Option ℕ → Outcome
numbered_reindexed names case None = unknown_index
numbered_reindexed names case (Some n) = judged_or (case_judged names case) (index_shown names case n)

abbrev pub case_reindexed : (name : List ℕ) → Names → CaseRead → Outcome
case_reindexed name names (Err refusal) = refusal
case_reindexed name names (Ok case) = numbered_reindexed names case (index_named case.indexes name)

-- the index of this name of the case in a file
abbrev pub reindex_outcome : (file name : List ℕ) → Names → Outcome
reindex_outcome file name names = case_reindexed name names (case_in file names)

-- the entries of the live rows, in order, may be indexed
abbrev pub MayBeMade : Names → CaseRecord → ℕ → Type 0
MayBeMade names case n = MayBeIndexed (rows_listed case names n)

-- in the index of this name of the case in a file
abbrev pub MayBeRemade : (file name : List ℕ) → Names → Type 0
MayBeRemade file name names =
    (case : CaseRecord) (n : ℕ) → case_in file names ≡ Ok case → index_named case.indexes name ≡ Some n
    → MayBeMade names case n

-- where this is what the words ask for, P holds of the file and the name
abbrev pub ForNamed : Option Form → ((file name : List ℕ) → Type 0) → Type 0
ForNamed form P = (file name : List ℕ) → form ≡ Some (Reindex file name) → P file name
