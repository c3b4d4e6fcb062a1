-- The findings of `all` are the rules that are broken in the files of its case.
use Rattle.std.proofs.Common.{◌≡◌, ℕ, List, [], ◌⊎◌, ap, subst, ◌∙◌}
use Rattle.std.specs.Prelude.{Ok}
use Rattle.std.specs.List.{All}
use Rattle.std.proofs.lemmas.List.Elements.{All-weaker}
use Rattle.outside.specs.Outside.{Names}
use Rattle.page_layout.specs.declared.rules.Rule.{Rule}
use Rattle.case_file.specs.Record.{CaseRecord}
use Rattle.reports.specs.Added.{IsListed}
use Rattle.reports.specs.Lists.{Lists}
use Rattle.reports.specs.declared.places.Place.{Place}
use Rattle.reports.specs.declared.places.Reason.{Reason}
use Rattle.cmd_run.specs.All.{BreaksAll, BreaksCase, DoubtsAll, DoubtsCase, HasTrueIndexes, all_found, all_judged, all_refusal, whole_judged}
use Rattle.cmd_answers.specs.Cases.{case_in}
use Rattle.cmd_run.specs.Laws.{AreLaws}
use Rattle.cmd_run.specs.Numbered.{IsBehind}
use Rattle.cmd_answers.proofs.CaseLaws.{HasCase, one_case, sound_case, the_case, unless_is}
use Rattle.cmd_run.proofs.WholeLaws.{whole_doubt_listed, whole_doubts, whole_listed, whole_sound, whole_true}

module _ (laws : AreLaws) (file : List ℕ) (names : Names) (lists : Lists) (e : all_judged file names ≡ Ok lists) where
  of_case : HasCase file names (whole_judged names) lists
  of_case = the_case file names (whole_judged names) lists e

  abbrev case : CaseRecord
  case = of_case.case

  meant : case_in file names ≡ Ok case
  meant = of_case.meant

  shown : all_found case names ≡ lists
  shown = unless_is (all_refusal case names) case (all_found case names) lists of_case.judged

  -- each finding of its report is a broken rule, and each place that is called unjudged is in doubt
  pub all_sound : All (λ f. BreaksAll file names f.rule f.place) lists.findings
  all_sound =
      subst (λ (l : Lists). All (λ f. BreaksAll file names f.rule f.place) l.findings) shown
      (All-weaker (λ f. BreaksCase case names f.rule f.place) (λ f. BreaksAll file names f.rule f.place)
      (λ f broken. record { case = case; meant = meant; breaks = broken }) (all_found case names).findings (whole_sound laws case names))

  pub all_doubts : All (λ u. DoubtsAll file names u.reason u.place) lists.unjudged
  all_doubts =
      subst (λ (l : Lists). All (λ u. DoubtsAll file names u.reason u.place) l.unjudged) shown
      (All-weaker (λ u. DoubtsCase case names u.reason u.place) (λ u. DoubtsAll file names u.reason u.place)
      (λ u doubt. record { case = case; meant = meant; doubts = doubt }) (all_found case names).unjudged (whole_doubts laws case names))

  -- and each place where something is stands in it
  pub all_listed : (rule : Rule) (place : Place) → BreaksAll file names rule place → IsListed lists place ⊎ IsBehind lists rule place
  all_listed rule place broken =
      let same = one_case file names broken.case case broken.meant meant in
      subst (λ (l : Lists). IsListed l place ⊎ IsBehind l rule place) shown
      (whole_listed laws case names rule place (subst (λ (c : CaseRecord). BreaksCase c names rule place) same broken.breaks))

  pub all_doubt_listed : (reason : Reason) (place : Place) → DoubtsAll file names reason place → IsListed lists place
  all_doubt_listed reason place doubt =
      let same = one_case file names doubt.case case doubt.meant meant in
      subst (λ (l : Lists). IsListed l place) shown
      (whole_doubt_listed laws case names reason place (subst (λ (c : CaseRecord). DoubtsCase c names reason place) same doubt.doubts))

  -- a report without findings, and with nothing in doubt, tells what is true of the heap and of each index
  pub all_true : lists.findings ≡ [] → lists.unjudged ≡ [] → HasTrueIndexes file names
  all_true none sure = record {
    case = case;
    meant = meant;
    is_true = whole_true laws case names (sound_case file names case meant) (ap (λ (l : Lists). l.findings) shown ∙ none) (ap (λ (l : Lists). l.unjudged) shown ∙ sure);
  }
