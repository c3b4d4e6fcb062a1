-- What the report of a command is worth.
use Rattle.std.proofs.Common.{◌≡◌, ◌≢◌, ℕ, List, [], ◌∷◌, ◌⊎◌, inl, inr, refl, sym, ap, subst, ◌∙◌, arith}
use Rattle.std.specs.Prelude.{Option, Some, Ok}
use Rattle.std.specs.List.{All}
use Rattle.std.proofs.lemmas.List.Elements.{All-head}
use Rattle.outside.specs.Outside.{Names}
use Rattle.outside.specs.declared.files.Part.TheVariants.{Segment}
use Rattle.reports.specs.Lists.{Lists}
use Rattle.reports.specs.Texts.{verdict_of}
use Rattle.reports.specs.declared.places.Finding.{Finding}
use Rattle.reports.specs.declared.places.UnjudgedPlace.{UnjudgedPlace}
use Rattle.page_layout.specs.declared.rules.Rule.{Rule}
use Rattle.heap_page_check.proofs.PageLaws.{none_listed}
use Rattle.cmd_answers.specs.Answers.{answer_by, answer_code}
use Rattle.cmd_run.specs.Commands.{BreaksNothing, DoubtsNothing, IsComplete, IsGenerated, IsSound, IsTrue, IsWorth, heading_of, judged_by, outcome_of}
use Rattle.cmd_run.specs.Laws.{AreLaws}
use Rattle.cmd_run.specs.Numbered.{IsBehind}
use Rattle.cmd_run.specs.Generated.{generated_owed}
use Rattle.cmd_answers.specs.Outcome.{Meets, Outcome, owed_under, reported_under}
use Rattle.cmd_line.specs.Words.{All as Every, Check, Form, Generated, Heap, Index, Judge, Pages}
use Rattle.cmd_run.proofs.AllLaws.{all_doubt_listed, all_doubts, all_listed, all_sound, all_true}
use Rattle.cmd_run.proofs.GeneratedLaws.{generated_doubt_listed, generated_doubts, generated_listed, generated_sound, generated_true}
use Rattle.cmd_run.proofs.HeapLaws.{heap_doubt_listed, heap_doubts, heap_listed, heap_sound, heap_true}
use Rattle.reports.specs.Added.{IsListed, found}
use Rattle.reports.specs.declared.places.Place.{Place}
use Rattle.cmd_run.proofs.IndexLaws.{index_doubt_listed, index_doubts, index_listed, index_sound, index_true}
use Rattle.cmd_answers.proofs.PagesLaws.{file_certain, file_listed, file_sound, pages_are}

-- each finding of a report is a broken rule, and each place that it calls unjudged is in doubt
pub sound_report : (laws : AreLaws) (check : Check) (names : Names) (lists : Lists) → judged_by check names ≡ Ok lists → IsSound check names lists
sound_report laws (Pages name) names lists e =
    let file = names name (Segment 0) in
    let P : Lists → Type 0 = IsSound (Pages name) names in
    subst P (pages_are name file lists e) (record { findings = file_sound file; unjudged = file_certain file })
sound_report laws (Heap name) names lists e =
    record { findings = heap_sound name names lists e; unjudged = heap_doubts name names lists e }
sound_report laws (Index case name) names lists e =
    record { findings = index_sound laws case name names lists e; unjudged = index_doubts laws case name names lists e }
sound_report laws (Every case) names lists e =
    record { findings = all_sound laws case names lists e; unjudged = all_doubts laws case names lists e }
sound_report laws (Generated seed rows) names lists e =
    record { findings = generated_sound laws seed rows lists e; unjudged = generated_doubts laws seed rows lists e }

-- each place where something is stands in it
pub complete_report : (laws : AreLaws) (check : Check) (names : Names) (lists : Lists) → judged_by check names ≡ Ok lists → IsComplete check names lists
complete_report laws (Pages name) names lists e =
    let file = names name (Segment 0) in
    let P : Lists → Type 0 = IsComplete (Pages name) names in
    subst P (pages_are name file lists e) (record { broken = λ rule place broken. inl (file_listed file rule place broken); in_doubt = λ reason place doubted. absurd doubted })
complete_report laws (Heap name) names lists e =
    record { broken = λ rule place broken. inl (heap_listed name names lists e rule place broken); in_doubt = heap_doubt_listed name names lists e }
complete_report laws (Index case name) names lists e =
    record { broken = index_listed laws case name names lists e; in_doubt = index_doubt_listed laws case name names lists e }
complete_report laws (Every case) names lists e =
    record { broken = all_listed laws case names lists e; in_doubt = all_doubt_listed laws case names lists e }
complete_report laws (Generated seed rows) names lists e =
    record { broken = generated_listed laws seed rows lists e; in_doubt = generated_doubt_listed laws seed rows lists e }

-- nothing is found, or behind what is found, in empty lists
none_told : (lists : Lists) (rule : Rule) (place : Place) → lists.findings ≡ [] → lists.unjudged ≡ [] → IsListed lists place ⊎ IsBehind lists rule place → ⊥
none_told lists rule place none sure (inl listed) = none_listed lists place none sure listed
none_told lists rule place none sure (inr behind) = none_listed lists behind.first.place none sure (found behind.first.rule behind.found)

module _ (laws : AreLaws) (lists : Lists) (none : lists.findings ≡ []) (sure : lists.unjudged ≡ []) where
  -- a report without findings, and with nothing in doubt, tells that nothing is broken,
  pub empty_breaks : (check : Check) (names : Names) → judged_by check names ≡ Ok lists → BreaksNothing check names
  empty_breaks check names e rule place broken = none_told lists rule place none sure ((complete_report laws check names lists e).broken rule place broken)

  -- that all can be judged,
  pub empty_doubts : (check : Check) (names : Names) → judged_by check names ≡ Ok lists → DoubtsNothing check names
  empty_doubts check names e reason place doubted = none_listed lists place none sure ((complete_report laws check names lists e).in_doubt reason place doubted)

  -- and that what is said of clean files is true
  pub empty_is_true : (check : Check) (names : Names) → judged_by check names ≡ Ok lists → IsTrue check names
  empty_is_true (Pages name) names e = tt
  empty_is_true (Heap name) names e = heap_true name names lists e none sure
  empty_is_true (Index case name) names e = index_true laws case name names lists e none sure
  empty_is_true (Every case) names e = all_true laws case names lists e none sure
  empty_is_true (Generated seed rows) names e = generated_true laws seed rows lists e none sure

-- what never comes isn't listed
pub none_of : {X : Type 0} {P : X → Type 0} (xs : List X) → All P xs → ((x : X) → P x → ⊥) → xs ≡ []
none_of [] all never = refl
none_of {P = P} (x ∷ xs) all never = absurd (never x (All-head P x xs all))

pub clean_has_none : (fs : List Finding) (us : List UnjudgedPlace) → answer_code (answer_by (verdict_of fs us)) ≡ 0 → (fs ≡ []) × (us ≡ [])
unfolding verdict_of
clean_has_none [] [] e = (refl, refl)
clean_has_none [] (u ∷ us) e = absurd (omega (arith, e))
clean_has_none (f ∷ fs) us e = absurd (omega (arith, e))

none_is_clean : (fs : List Finding) (us : List UnjudgedPlace) → fs ≡ [] → us ≡ [] → answer_code (answer_by (verdict_of fs us)) ≡ 0
unfolding verdict_of
none_is_clean fs us e f = rw (e, f) refl

module _ (laws : AreLaws) (check : Check) (names : Names) (lists : Lists) (e : judged_by check names ≡ Ok lists) where
  abbrev owed : Outcome
  owed = reported_under (heading_of check) lists

  sound : IsSound check names lists
  sound = sound_report laws check names lists e

  complete : IsComplete check names lists
  complete = complete_report laws check names lists e

  -- the code of a report of which nothing is broken and nothing in doubt
  clean : BreaksNothing check names → DoubtsNothing check names → owed.code ≡ 0
  clean nothing sure =
      none_is_clean lists.findings lists.unjudged (none_of lists.findings sound.findings (λ f. nothing f.rule f.place))
      (none_of lists.unjudged sound.unjudged (λ u. sure u.reason u.place))

  -- a code that is the report's own, or tells that it couldn't be written
  own : (code : ℕ) → (code ≡ owed.code) ⊎ (code ≡ 8) → code ≡ 0 → owed.code ≡ 0
  own code (inl same) nought = sym same ∙ nought
  own code (inr eight) nought = absurd (omega (arith, nought, eight))

  -- a report that was to be written
  pub written_worth : (old new : Option (List ℕ)) (code : ℕ) → Meets owed old new code
      → (code ≡ owed.code) ⊎ (code ≡ 8) → IsWorth check names lists old new code
  written_worth old new code meets codes =
      let none = (λ (nought : code ≡ 0). clean_has_none lists.findings lists.unjudged (own code codes nought)) in record {
        written = meets;
        sound = sound;
        complete = complete;
        clean = λ nothing sure. elim codes [ inl same ↦ inl (same ∙ clean nothing sure) | inr eight ↦ inr (inr (inl eight)) ];
        whole = λ nought.
            (empty_breaks laws lists (none nought).0 (none nought).1 check names e, empty_doubts laws lists (none nought).0 (none nought).1 check names e);
        truth = λ nought. empty_is_true laws lists (none nought).0 (none nought).1 check names e;
      }

  -- a report of a run that gave up before it wrote
  pub given_up_worth : (old new : Option (List ℕ)) (code : ℕ) → (code ≡ 7) ⊎ (code ≡ 9) → IsWorth check names lists old new code
  given_up_worth old new code (inl seven) = record {
    written = record { whole = λ not_seven not_eight not_nine. absurd (not_seven seven); prefix = λ eight. absurd (omega (arith, seven, eight)) };
    sound = sound;
    complete = complete;
    clean = λ nothing sure. inr (inl seven);
    whole = λ nought. absurd (omega (arith, seven, nought));
    truth = λ nought. absurd (omega (arith, seven, nought));
  }
  given_up_worth old new code (inr nine) = record {
    written = record { whole = λ not_seven not_eight not_nine. absurd (not_nine nine); prefix = λ eight. absurd (omega (arith, nine, eight)) };
    sound = sound;
    complete = complete;
    clean = λ nothing sure. inr (inr (inr nine));
    whole = λ nought. absurd (omega (arith, nine, nought));
    truth = λ nought. absurd (omega (arith, nine, nought));
  }

-- the outcome of a command that makes a report is that report, behind its heading
pub report_owed : (form : Form) (check : Check) (names : Names) (lists : Lists) (o : Outcome) → Some form ≡ Some (Judge check)
    → judged_by check names ≡ Ok lists → o ≡ outcome_of form names → o ≡ reported_under (heading_of check) lists
report_owed form check names lists o asked e owed =
    let same : form ≡ Judge check = cc in
    owed ∙ ap (λ (f : Form). outcome_of f names) same ∙ ap (owed_under (heading_of check)) e

pub worth_by : (laws : AreLaws) (form : Form) (check : Check) (names : Names) (lists : Lists) (o : Outcome) → Some form ≡ Some (Judge check)
    → judged_by check names ≡ Ok lists → o ≡ outcome_of form names → (old new : Option (List ℕ)) (code : ℕ) → Meets o old new code
    → (code ≡ o.code) ⊎ (code ≡ 8) → IsWorth check names lists old new code
worth_by laws form check names lists o asked e owed old new code meets codes =
    let is = report_owed form check names lists o asked e owed in
    written_worth laws check names lists e old new code (subst (λ (p : Outcome). Meets p old new code) is meets)
    (subst (λ (p : Outcome). (code ≡ p.code) ⊎ (code ≡ 8)) is codes)

-- What `gen` is worth

-- a run of it that was to write
pub worth_generated : (laws : AreLaws) (seed rows : ℕ) (names : Names) (o : Outcome) → o ≡ generated_owed seed rows
    → (old new : Option (List ℕ)) (code : ℕ) → Meets o old new code → (code ≡ o.code) ⊎ (code ≡ 8) → code ≢ 7
    → IsGenerated seed rows names old new code
worth_generated laws seed rows names o owed old new code meets codes read = record {
  written = subst (λ (p : Outcome). Meets p old new code) owed meets;
  read = read;
  worth = λ lists e. worth_by laws (Judge (Generated seed rows)) (Generated seed rows) names lists o refl e owed old new code meets codes;
}

-- one for which there was no memory
pub gave_up_generated : (laws : AreLaws) (seed rows : ℕ) (names : Names) (old new : Option (List ℕ)) (code : ℕ) → code ≡ 9
    → IsGenerated seed rows names old new code
gave_up_generated laws seed rows names old new code nine = record {
  written = record { whole = λ not_seven not_eight not_nine. absurd (not_nine nine); prefix = λ eight. absurd (omega (arith, nine, eight)) };
  read = λ seven. absurd (omega (arith, nine, seven));
  worth = λ lists e. given_up_worth laws (Generated seed rows) names lists e old new code (inr nine);
}
