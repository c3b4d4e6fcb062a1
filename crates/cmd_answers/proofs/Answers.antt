-- The codes of answers.
use Rattle.std.proofs.Common.{◌≢◌, inl, inr, refl, arith}
use Rattle.cmd_answers.specs.Answers.{IsOutcomeCode, answer_code}
use Rattle.cmd_answers.specs.declared.status.Answer.{Answer}
use Rattle.cmd_answers.specs.declared.status.Answer.TheVariants.{Clean, Findings, Unjudged, CaseRefused, NoFile, TooLarge}
use Rattle.cmd_answers.specs.declared.status.Answer.TheVariants.{BadBound, KeyTooLarge, NoBlock, Unread}

pub answers_are_known : (answer : Answer) → IsOutcomeCode (answer_code answer)
answers_are_known Clean = inl (omega arith)
answers_are_known Findings = inl (omega arith)
answers_are_known Unjudged = inl (omega arith)
answers_are_known Unread = inl (omega arith)
answers_are_known CaseRefused = inl (omega arith)
answers_are_known NoFile = inl (omega arith)
answers_are_known TooLarge = inl (omega arith)
answers_are_known NoBlock = inr (inl refl)
answers_are_known BadBound = inr (inr (inl refl))
answers_are_known KeyTooLarge = inr (inr (inr refl))

-- no command answers that words have no form
pub no_answer_is_usage : (answer : Answer) → answer_code answer ≢ 3
no_answer_is_usage Clean e = absurd (omega (arith, e))
no_answer_is_usage Findings e = absurd (omega (arith, e))
no_answer_is_usage Unjudged e = absurd (omega (arith, e))
no_answer_is_usage Unread e = absurd (omega (arith, e))
no_answer_is_usage CaseRefused e = absurd (omega (arith, e))
no_answer_is_usage NoFile e = absurd (omega (arith, e))
no_answer_is_usage TooLarge e = absurd (omega (arith, e))
no_answer_is_usage NoBlock e = absurd (omega (arith, e))
no_answer_is_usage BadBound e = absurd (omega (arith, e))
no_answer_is_usage KeyTooLarge e = absurd (omega (arith, e))
