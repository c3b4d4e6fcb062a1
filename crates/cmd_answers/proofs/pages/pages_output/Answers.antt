use Rattle.std.proofs.Common.{◌≡◌, List, ℕ, ◌∙◌, refl, sym, ap, subst}
use Rattle.std.specs.Prelude.{Option, Some, None, IsSomeAnd}
use Rattle.std.proofs.lemmas.Result.{IfOk-weaker}
use Rattle.outside.specs.declared.files.Part.TheVariants.{Segment}
use Rattle.cmd_answers.specs.Files.{lone_file_refusal}
use Rattle.cmd_answers.specs.Outcome.{Outcome, owed_by, reported}
use Rattle.cmd_answers.specs.Pages.{file_found, judged_unless, pages_judged}
use Rattle.cmd_answers.specs.Seen.{IsOpening}
use Rattle.cmd_answers.specs.declared.blocks.Opening.{Opening}
use Rattle.cmd_answers.proofs.pages.pages_output.Goals as goal

-- a file that is there and isn't refused has a report
owed : (name : List ℕ) (file : Option (List ℕ)) (P : List ℕ → Type 0) (o : Outcome) → lone_file_refusal name file ≡ None → IsSomeAnd file P
    → ((bytes : List ℕ) → file ≡ Some bytes → o ≡ reported (file_found (Some bytes))) → o ≡ owed_by (pages_judged name file)
owed name None P o none some by = absurd some
owed name (Some bytes) P o none some by =
    by bytes refl ∙ ap (λ (r : Option Outcome). owed_by (judged_unless r (file_found (Some bytes)))) (sym none)

pub returns-in-Blocks-clause-output : goal.returns-in-Blocks-clause-output
returns-in-Blocks-clause-output g c =
    IfOk-weaker c.judged_output.result _ _
    (λ o shown names told.
    let file = names c.args.file.now (Segment 0) in
    let P : Opening → Type 0 = IsOpening c.args.file.now file in
    let opened = subst P c.in-Blocks.is (c.in_ok-output.ensures.opening names told) in
    owed c.args.file.now file _ _ opened.0 opened.1 (λ bytes there. shown names bytes (c.in_ok-output.ensures.asked.same ∙ told) there))
    c.judged_output.ensures.output
