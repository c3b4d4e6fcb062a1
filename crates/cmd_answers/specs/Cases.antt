-- A case: what its file means, and why it or its files are refused.
use Rattle.std.specs.Prelude.{ℕ, Bool, List, [], length, nat_lt, if◌then◌else◌, Option, Some, None, Result, Ok, Err}
use Rattle.outside.specs.Outside.{Names}
use Rattle.outside.specs.declared.files.Part.TheVariants.{Segment}
use Rattle.case_file.specs.Case.{Meaning, case_of}
use Rattle.case_file.specs.Record.{CaseRecord}
use Rattle.rel_files.specs.declared.check_fault.CheckFault.{CheckFault}
use Rattle.rel_files.specs.declared.check_fault.CheckFault.TheVariants as check
use Rattle.rel_files.specs.declared.check_fault.Which.{Which}
use Rattle.rel_files.specs.declared.check_fault.Which.TheVariants as which
use Rattle.reports.specs.Lists.{Lists}
use Rattle.bt_levels.specs.Index.{index_of}
use Rattle.cmd_answers.specs.Outcome.{Judged, Outcome, case_refused, no_file, too_large, usage}
use Rattle.cmd_answers.specs.declared.output.Unit.TheVariants.{Blocks, Bytes}

-- how many bytes a case file may have
abbrev pub text_limit : ℕ
text_limit = 1048576

-- a case, or the refusal that comes first
abbrev pub CaseRead : Type 0
CaseRead = Result CaseRecord Outcome

abbrev pub case_by : Meaning → CaseRead
case_by (Ok case) = Ok case
case_by (Err refusal) = Err (case_refused refusal.0 refusal.1)

abbrev pub case_unless : Bool → List ℕ → List ℕ → CaseRead
case_unless large name text =
    if large then Err (too_large name Bytes (length text) text_limit) else case_by (case_of text)

-- the case in a file that is held or not
unfoldable pub case_read : List ℕ → Option (List ℕ) → CaseRead
case_read name None = Err (no_file name)
case_read name (Some text) = case_unless (nat_lt text_limit (length text)) name text

abbrev pub case_in : List ℕ → Names → CaseRead
case_in name names = case_read name (names name (Segment 0))

-- the base name of a TOAST table, where there is one
abbrev pub toast_named : Option (List ℕ × ℕ) → List ℕ
toast_named None = []
toast_named (Some t) = t.0

-- the base name of a file of a case
abbrev pub file_named : CaseRecord → Which → List ℕ
file_named case which.Heap = case.heap_file
file_named case which.Toast = toast_named case.toast
file_named case (which.Index n) = (index_of case n).file

-- why the files of a case are refused. A fault of reading and want of memory are no refusals
abbrev pub files_refused : CaseRecord → CheckFault → Outcome
files_refused case (check.NoFile which) = no_file (file_named case which)
files_refused case (check.TooLarge which blocks limit) = too_large (file_named case which) Blocks blocks limit
files_refused case check.ReadFault = usage
files_refused case check.NoMemory = usage

-- what a command says of a case: its report, unless a file of the case is refused
abbrev pub unless_refused : Option CheckFault → CaseRecord → Lists → Judged
unless_refused None case lists = Ok lists
unless_refused (Some fault) case lists = Err (files_refused case fault)

-- what it says of a file in which a case is to stand
abbrev pub of_read : (CaseRecord → Judged) → CaseRead → Judged
of_read judge (Ok case) = judge case
of_read judge (Err refusal) = Err refusal
