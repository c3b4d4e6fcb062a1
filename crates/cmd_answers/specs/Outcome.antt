-- What a run writes and answers: a refusal, a report or a page.
use Rattle.std.specs.Prelude.{◌≡◌, ◌≢◌, ℕ, if◌then◌else◌, List, [], ◌++◌, take, codes, decimal, Option, Some, None}
use Rattle.std.specs.Prelude.{Result, Ok, Err}
use Rattle.outside.specs.Outside.{appended}
use Rattle.key_orders.specs.declared.Tid.{Tid}
use Rattle.case_rules.specs.Rules.{rule_code}
use Rattle.case_rules.specs.declared.fault.CaseRule.{CaseRule}
use Rattle.reports.specs.Lists.{Lists}
use Rattle.reports.specs.Texts.{report_text, verdict_of}
use Rattle.bt_levels.specs.Lists.{is_quiet}
use Rattle.cmd_answers.specs.Answers.{answer_by, answer_code}
use Rattle.cmd_answers.specs.declared.output.Unit.{Unit}
use Rattle.cmd_answers.specs.declared.output.Unit.TheVariants.{Blocks, Bytes, Rows}
use Rattle.cmd_answers.specs.declared.status.Answer.TheVariants.{BadBound, CaseRefused, KeyTooLarge, NoFile, TooLarge}
use Rattle.cmd_answers.specs.declared.status.Answer.TheVariants.{Clean, NoBlock}
use Rattle.cmd_line.specs.declared.notice.Notice.{Notice}
use Rattle.cmd_line.specs.declared.notice.Notice.TheVariants.{Help, Version}
use Rattle.cmd_line.specs.declared.notice.TheConstants.{HELP, VERSION}

-- the bytes and the code that a run owes
pub record Outcome : Type 0 where
  pub bytes : List ℕ
  pub code : ℕ

-- Refusals

-- words without a form
abbrev pub usage : Outcome
usage = record { bytes = codes "refused usage\n"; code = 3 }

abbrev pub no_file : List ℕ → Outcome
no_file name = record { bytes = codes "refused no file " ++ name ++ codes "\n"; code = answer_code NoFile }

abbrev pub unit_word : Unit → List ℕ
unit_word Blocks = codes " blocks "
unit_word Bytes = codes " bytes "
unit_word Rows = codes " rows "

-- a file that has so many blocks, a case file of so many bytes, or a table that is to have so many rows, and may have
-- no more than the limit
abbrev pub too_large : List ℕ → Unit → (count limit : ℕ) → Outcome
too_large name unit count limit = record {
  bytes = codes "refused too large " ++ name ++ unit_word unit ++ decimal count ++ codes " limit " ++ decimal limit
      ++ codes "\n";
  code = answer_code TooLarge;
}

abbrev pub case_refused : CaseRule → List ℕ → Outcome
case_refused rule place = record {
  bytes = codes "refused case " ++ rule_code rule ++ codes " " ++ place ++ codes "\n";
  code = answer_code CaseRefused;
}

-- a block past the last of a file
abbrev pub no_block : ℕ → ℕ → Outcome
no_block block blocks = record {
  bytes = codes "refused no block " ++ decimal block ++ codes " of " ++ decimal blocks ++ codes "\n";
  code = answer_code NoBlock;
}

-- a bound of a scan that doesn't fit the key of its index
abbrev pub bad_bound : Outcome
bad_bound = record { bytes = codes "refused bound\n"; code = answer_code BadBound }

-- a key of the index that is to be built is too large, at this lowest TID
abbrev pub key_too_large : Tid → Outcome
key_too_large tid = record {
  bytes = codes "refused key too large " ++ decimal tid.block ++ codes " " ++ decimal tid.item ++ codes "\n";
  code = answer_code KeyTooLarge;
}

-- a refusal, or else what is owed without one
abbrev pub refused_or : Option Outcome → Outcome → Outcome
refused_or (Some refusal) owed = refusal
refused_or None owed = owed

-- What the program says of itself

abbrev pub told : Notice → Outcome
told Help = record { bytes = HELP.now; code = answer_code Clean }
told Version = record { bytes = codes "kamzudrev " ++ VERSION.now ++ codes "\n"; code = answer_code Clean }

-- Reports

-- a report behind some lines
abbrev pub reported_under : (heading : List ℕ) → Lists → Outcome
reported_under heading lists = record {
  bytes = heading ++ report_text lists.findings lists.unjudged;
  code = answer_code (answer_by (verdict_of lists.findings lists.unjudged));
}

abbrev pub reported : Lists → Outcome
reported = reported_under []

-- a report where something is found or in doubt, and else what is owed without one
abbrev pub report_or : Lists → (owed : Outcome) → Outcome
report_or lists owed = if is_quiet lists then owed else reported lists

-- what a command finds: its report, or the refusal that comes first
abbrev pub Judged : Type 0
Judged = Result Lists Outcome

abbrev pub owed_under : (heading : List ℕ) → Judged → Outcome
owed_under heading (Ok lists) = reported_under heading lists
owed_under heading (Err refusal) = refusal

abbrev pub owed_by : Judged → Outcome
owed_by = owed_under []

-- where nothing is found or in doubt, what is owed without a report
abbrev pub judged_or : Judged → (owed : Outcome) → Outcome
judged_or (Ok lists) owed = report_or lists owed
judged_or (Err refusal) owed = refusal

-- The end of a run

-- what a run has answered and written is what it owes, but for faults and want of memory
pub record Meets (owed : Outcome) (old new : Option (List ℕ)) (code : ℕ) : Type 0 where
  pub whole : code ≢ 7 → code ≢ 8 → code ≢ 9 → (code ≡ owed.code) × (new ≡ appended old owed.bytes)
  pub prefix : code ≡ 8 → (n : ℕ) × (new ≡ appended old (take n owed.bytes))
