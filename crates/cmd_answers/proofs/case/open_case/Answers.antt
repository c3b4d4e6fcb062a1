use Rattle.std.proofs.Common.{◌≡◌, List, ℕ, Bool, ◌≤◌, ◌∙◌, refl, sym, ap, length, arith}
use Rattle.std.specs.Prelude.{Option, Some, None}
use Rattle.std.specs.Option.{option_map}
use Rattle.std.proofs.lemmas.Bool.{le-ltb}
use Rattle.std.proofs.lemmas.Result.{IfOk-weaker}
use Rattle.outside.specs.declared.files.Part.TheVariants.{Segment}
use Rattle.case_file.specs.Case.{case_of}
use Rattle.cmd_answers.specs.Cases.{CaseRead, case_by, case_read, case_unless}
use Rattle.cmd_answers.proofs.case.open_case.Goals as goal

-- a text that isn't too long is read
within : (name : List ℕ) (file : Option (List ℕ)) (len : ℕ) (o : CaseRead) → Some len ≡ option_map length file → len ≤ 1048576
    → ((text : List ℕ) → file ≡ Some text → o ≡ case_by (case_of text)) → o ≡ case_read name file
unfolding case_read
within name None len o is le by = absurd cc
within name (Some text) len o is le by =
    let long : len ≡ length text = cc in
    by text refl ∙ ap (λ (b : Bool). case_unless b name text) (sym (le-ltb 1048576 (length text) (omega (arith, long, le))))

pub returns-in-Some-2-clause-opening : goal.returns-in-Some-2-clause-opening
returns-in-Some-2-clause-opening g c =
    IfOk-weaker c.open_long.result _ _
    (λ o opened names told.
    within c.args.file.now (names c.args.file.now (Segment 0)) c.in-Some-2.len _ (sym c.in-Some-2.is ∙ c.in_ok-length.ensures.answer names told)
    (omega (arith, c.if-len-gt-TEXT_LIMIT.false)) (λ text there. opened names text (c.in_ok-length.ensures.asked.same ∙ told) there))
    c.open_long.ensures.opening
