-- The command `copy`: what it writes of a case.
use Rattle.std.specs.Prelude.{ℕ, ◌==◌, if◌then◌else◌, List, Ok, Err}
use Rattle.outside.specs.Outside.{Names}
use Rattle.case_file.specs.Record.{CaseRecord}
use Rattle.copy_out.specs.Live.{copied_text, unread_values}
use Rattle.cmd_answers.specs.Answers.{answer_code}
use Rattle.cmd_answers.specs.Cases.{CaseRead, case_in}
use Rattle.cmd_run.specs.Heap.{case_judged}
use Rattle.cmd_answers.specs.Outcome.{Outcome, judged_or}
use Rattle.cmd_answers.specs.declared.status.Answer.{Answer}
use Rattle.cmd_answers.specs.declared.status.Answer.TheVariants.{Clean, Unread}

-- what is answered where so many values of rows aren't read
abbrev pub answer_unread : ℕ → Answer
answer_unread count = if count == 0 then Clean else Unread

-- the live rows of a case as text, with that answer
unfoldable pub rows_shown : Names → CaseRecord → Outcome
rows_shown names case = record {
  bytes = copied_text case names;
  code = answer_code (answer_unread (unread_values case names));
}

-- the rows of a case, judged as `heap` judges it
abbrev pub case_copied : Names → CaseRecord → Outcome
case_copied names case = judged_or (case_judged names case) (rows_shown names case)

abbrev pub read_copied : Names → CaseRead → Outcome
read_copied names (Ok case) = case_copied names case
read_copied names (Err refusal) = refusal

-- the rows of the case in a file
abbrev pub copy_outcome : List ℕ → Names → Outcome
copy_outcome file names = read_copied names (case_in file names)
