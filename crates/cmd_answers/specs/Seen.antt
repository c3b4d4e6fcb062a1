-- What the values of the code stand for.
use Rattle.std.specs.Prelude.{◌≡◌, ℕ, ◌/◌, List, length, Option, Some, None, Ok, Err, IsSomeAnd}
use Rattle.cmd_answers.specs.Answers.{answer_code}
use Rattle.cmd_answers.specs.Cases.{CaseRead}
use Rattle.cmd_answers.specs.Files.{lone_file_refusal}
use Rattle.cmd_answers.specs.Outcome.{Outcome}
use Rattle.cmd_answers.specs.declared.blocks.Opening.{Opening}
use Rattle.cmd_answers.specs.declared.blocks.Opening.TheVariants.{Blocks, Refused}
use Rattle.cmd_answers.specs.declared.case.CaseOpening.{CaseOpening}
use Rattle.cmd_answers.specs.declared.case.CaseOpening.TheVariants.{Opened, Refused as case_refused}
use Rattle.cmd_answers.specs.declared.output.Output.{Output}

-- the outcome of an output
abbrev pub outcome_seen : Output → Outcome
outcome_seen o = record { bytes = o.text; code = answer_code o.answer }

-- what is answered of a file that is read by itself, held or not: its refusal, or how many whole blocks it has
abbrev pub IsOpening : List ℕ → Option (List ℕ) → Opening → Type 0
IsOpening name file (Refused output) = lone_file_refusal name file ≡ Some (outcome_seen output)
IsOpening name file (Blocks blocks) =
    (lone_file_refusal name file ≡ None) × IsSomeAnd file (λ bytes. length bytes / 8192 ≡ blocks)

-- the case of a case file, or its refusal
abbrev pub case_seen : CaseOpening → CaseRead
case_seen (Opened case) = Ok case
case_seen (case_refused output) = Err (outcome_seen output)
