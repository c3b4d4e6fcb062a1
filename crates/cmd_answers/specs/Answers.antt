-- The statuses of a run.
use Rattle.std.specs.Prelude.{◌≡◌, ℕ, ◌≤◌, ◌⊎◌}
use Rattle.reports.specs.declared.places.Verdict.{Verdict}
use Rattle.reports.specs.declared.places.Verdict.TheVariants as verdict
use Rattle.cmd_answers.specs.declared.status.Answer.{Answer}
use Rattle.cmd_answers.specs.declared.status.Answer.TheVariants.{Clean, Findings, Unjudged, Unread, CaseRefused}
use Rattle.cmd_answers.specs.declared.status.Answer.TheVariants.{NoFile, TooLarge, NoBlock, BadBound, KeyTooLarge}
use Rattle.cmd_answers.specs.declared.status.Ending.{Ending}
use Rattle.cmd_answers.specs.declared.status.Ending.TheVariants.{Answered, Usage, ReadFault, WriteFault, NoMemory}

-- what a command answers
abbrev pub answer_code : Answer → ℕ
answer_code Clean = 0
answer_code Findings = 1
answer_code Unjudged = 2
answer_code Unread = 2
answer_code CaseRefused = 4
answer_code NoFile = 5
answer_code TooLarge = 6
answer_code NoBlock = 10
answer_code BadBound = 11
answer_code KeyTooLarge = 12

-- how a run ends
abbrev pub ending_code : Ending → ℕ
ending_code (Answered answer) = answer_code answer
ending_code Usage = 3
ending_code ReadFault = 7
ending_code WriteFault = 8
ending_code NoMemory = 9

abbrev pub answer_by : Verdict → Answer
answer_by verdict.Clean = Clean
answer_by verdict.Findings = Findings
answer_by verdict.Unjudged = Unjudged

-- the codes of outcomes; the others tell that a run gave up
abbrev pub IsOutcomeCode : ℕ → Type 0
IsOutcomeCode code = (code ≤ 6) ⊎ ((code ≡ 10) ⊎ ((code ≡ 11) ⊎ (code ≡ 12)))

-- a file couldn't be read, the output couldn't be written, or memory ran out
abbrev pub GaveUp : ℕ → Type 0
GaveUp code = (code ≡ 7) ⊎ ((code ≡ 8) ⊎ (code ≡ 9))
